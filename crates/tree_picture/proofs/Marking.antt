-- Marks of pages, one page and one level after the other.
use Rattle.std.proofs.Common.{◌≡◌, ◌<◌, ◌+◌, ◌++◌, ◌∷◌, [], ℕ, suc, true, false, List, Some, append_assoc, append-nil, length, take, refl, sym, ap, subst, arith, ◌∙◌}
use Rattle.std.specs.Prelude.{if◌then◌else◌, slice_index_or}
use Rattle.std.specs.List.{AllZip}
use Rattle.std.specs.Ordering.{is_eq}
use Rattle.std.proofs.lemmas.List.{get_or_default}
use Rattle.std.proofs.lemmas.Option.{same_Some}
use Rattle.bw_model.specs.Bytes.{key_cmp}
use Rattle.base_page.specs.declared.item.Content.{Content}
use Rattle.base_page.specs.declared.item.Item.{Item}
use Rattle.base_page.specs.Pages.{AreItems, content_at}
use Rattle.base_page.proofs.PlaceLaws.{content_at_place}
use Rattle.traces.specs.chain.SideChain.{LivePage}
use Rattle.tree_picture.specs.declared.shape.Mark.{Mark}
use Rattle.tree_picture.specs.Marks.{AreMarked, IsMarkFor}
use Rattle.tree_picture.proofs.Heights.{take_next}

zip_push : (Fits : LivePage → Mark → Type 0) (pages : List LivePage) (marks : List Mark) (page : LivePage) (mark : Mark) → AllZip Fits pages marks
    → Fits page mark → AllZip Fits (pages ++ page ∷ []) (marks ++ mark ∷ [])
zip_push Fits [] [] page mark zip fits = (fits, tt)
zip_push Fits [] (first ∷ marks) page mark zip fits = absurd zip
zip_push Fits (first ∷ pages) [] page mark zip fits = absurd zip
zip_push Fits (first ∷ pages) (own ∷ marks) page mark zip fits = (zip.0, zip_push Fits pages marks page mark zip.1 fits)

-- the marks so far, and one page more
pub mark_next : (Fits : LivePage → Mark → Type 0) (pages : List LivePage) (i : ℕ) (page : LivePage) → i < length pages → page ≡ slice_index_or pages i page
    → (start so_far after : List Mark) (mark : Mark)
    → (own : List Mark) × (so_far ≡ start ++ own) × AllZip Fits (take i pages) own → after ≡ so_far ++ mark ∷ [] → Fits page mark
    → (own : List Mark) × (after ≡ start ++ own) × AllZip Fits (take (i + 1) pages) own
mark_next Fits pages i page there is start so_far after mark told next fits = (
  told.0 ++ mark ∷ [],
  next ∙ ap (λ (ms : List Mark). ms ++ mark ∷ []) told.1 ∙ append_assoc start told.0 (mark ∷ []),
  rw (← take_next pages i page there is) at (zip_push Fits (take i pages) told.0 page mark told.2 fits),
)

-- the last of some levels, or else this one
abbrev pub last_level : List LivePage → List (List LivePage) → List LivePage
last_level above [] = above
last_level above (level ∷ levels) = last_level level levels

last_more : (above : List LivePage) (levels : List (List LivePage)) (level : List LivePage) → last_level above (levels ++ level ∷ []) ≡ level
last_more above [] level = refl
last_more above (first ∷ levels) level = last_more first levels level

pub last_next : (levels : List (List LivePage)) (i : ℕ) (level : List LivePage) → i < length levels → level ≡ slice_index_or levels i level → level ≡ last_level [] (take (i + 1) levels)
last_next levels i level there is = sym (ap (last_level []) (take_next levels i level there is) ∙ last_more [] (take i levels) level)

-- one level more
marked_more : (root : ℕ) (above : List LivePage) (levels : List (List LivePage)) (level : List LivePage) (marks own : List Mark)
    → AreMarked root above levels marks → AllZip (IsMarkFor root (last_level above levels)) level own
    → AreMarked root above (levels ++ level ∷ []) (marks ++ own)
marked_more root above [] level marks own none zip = (own, [], ap (λ (ms : List Mark). ms ++ own) none ∙ sym (append-nil own), zip, refl)
marked_more root above (first ∷ levels) level marks own told zip =
    (told.0, told.1 ++ own, ap (λ (ms : List Mark). ms ++ own) told.2 ∙ append_assoc told.0 told.1 own, told.3, marked_more root first levels level told.1 own told.4 zip)

pub level_next_marked : (root : ℕ) (levels : List (List LivePage)) (i : ℕ) (level : List LivePage) → i < length levels → level ≡ slice_index_or levels i level
    → (start so_far after : List Mark) (above : List LivePage) → above ≡ last_level [] (take i levels)
    → (own : List Mark) × (so_far ≡ start ++ own) × AreMarked root [] (take i levels) own → (own : List Mark) × (after ≡ so_far ++ own) × AllZip (IsMarkFor root above) level own
    → (own : List Mark) × (after ≡ start ++ own) × AreMarked root [] (take (i + 1) levels) own
level_next_marked root levels i level there is start so_far after above above_is told next = (
  told.0 ++ next.0,
  next.1 ∙ ap (λ (ms : List Mark). ms ++ next.0) told.1 ∙ append_assoc start told.0 next.0,
  rw (← take_next levels i level there is) at (marked_more root [] (take i levels) level told.0 next.0 told.2 (rw above_is at next.2)),
)

-- an item is what its page has at its key, and what a page has at a key is an item's
pub item_found : (items : List Item) (place : ℕ) (item : Item) → AreItems items → place < length items → item ≡ slice_index_or items place item → content_at items item.key ≡ Some item.content
item_found items place item are there is =
    content_at_place items are item.key place item (record { within = there; found = λ d. ap (λ (i : Item). i.key) (get_or_default items place d item there ∙ sym is) })
    ∙ ap (λ (i : Item). Some i.content) (sym is)

pub at_item : (items : List Item) (key : List ℕ) (content : Content) → content_at items key ≡ Some content
    → (place : ℕ) × (place < length items) × ((d : Item) → (slice_index_or items place d).content ≡ content)
at_item [] key content is = cc
at_item (item ∷ items) key content is = elim (is_eq (key_cmp key item.key)) as (λ b. (if b then Some item.content else content_at items key) ≡ Some content
    → (place : ℕ) × (place < length (item ∷ items)) × ((d : Item) → (slice_index_or (item ∷ items) place d).content ≡ content)) [
      | true ↦ λ here. (0, omega arith, λ d. same_Some item.content content here)
      | false ↦ λ later. let found = at_item items key content later in (suc found.0, let there = found.1 in omega (arith, there), found.2)
    ] is
