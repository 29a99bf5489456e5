-- What the page of a chain has, and where its terms stand.
use Rattle.structure_changes.proofs.Words.{◌≡◌, ◌≢◌, ◌<◌, ℕ, List, [], ◌∷◌, Bool, true, false, Option, Some, refl, sym, ap, ◌∙◌, subst, if◌then◌else◌, IsTrue, AllByRecursion, is_eq, is_lt}
use Rattle.structure_changes.proofs.Words.{recursion_from_All, same_Some, key_cmp, is_below, is_in_range, Content, Child, Item, Page, IsPage, content_at, IsOfLevel, IsFirstAt, IsRuled, is_held}
use Rattle.structure_changes.proofs.Words.{Record, level_in, low_in, IsFitted, Makes, Version}
use Rattle.std.specs.Bool.{Decides}
use Rattle.std.specs.declared.cmp.Ordering.{Ordering}
use Rattle.std.specs.declared.cmp.Ordering.TheVariants.{Less, Equal, Greater}
use Rattle.std.proofs.lemmas.Map.Lookups.{exact_bytes}
use Rattle.base_page.proofs.KeyLaws.{and_left, itself, not_true, same}
use Rattle.deltas.specs.Spellable.{IsSpellableLink}
use Rattle.traces.proofs.FittedLaws.{Makes-base, by_order, content_all, found_first, items_unique}
use Rattle.row_chain.specs.Placed.{PlacedChain}
use Rattle.structure_changes.specs.Sizes.{HasItems}

-- one chain has one list of records
pub same_records : {one other : PlacedChain} → one ≡ other → one.records ≡ other.records
same_records same = ap (λ (chain : PlacedChain). chain.records) same

-- a fitted chain makes a page
pub made : (chain : List Record) → IsFitted chain → (page : Page) × Makes chain page
made [] h = absurd h
made (newest ∷ []) (page, is, stands) = (page, rw is (Makes-base page stands.ruled.is_page.ordered.ascending stands.alive))
made (newest ∷ older ∷ under) (over, rest) = (over.made, over.makes_now)

-- what the chain's items are, those of its page are
pub of_made : (chain : List Record) (made : Page) (P : List Item → Type 0) → Makes chain made → HasItems chain P → P made.items
of_made chain made P makes (items, has, p) = subst P (items_unique items made.items has.ascending makes.items.ascending (λ q. has.contents q ∙ sym (makes.items.contents q))) p

pub from_made : (chain : List Record) (made : Page) (P : List Item → Type 0) → Makes chain made → P made.items → HasItems chain P
from_made chain made P makes p = (made.items, makes.items, p)

-- what a comparison says of two keys
pub decides_key : (a b : List ℕ) (r : Bool) → r ≡ is_eq (key_cmp a b) → Decides r (a ≡ b)
decides_key a b r e = ((λ yes. same a b (sym e ∙ yes)), (λ is. e ∙ rw (← is) (ap is_eq (itself a))))

-- nothing is below the empty key
pub not_empty : (low key : List ℕ) → key_cmp low key ≡ Less → key ≢ []
not_empty low key less e = never low (rw (← e) less)
  where
    never : (k : List ℕ) → key_cmp k [] ≡ Less → ⊥
    never [] h = absurd cc
    never (x ∷ xs) h = absurd cc

pub above_empty : (key : List ℕ) → key ≢ [] → IsTrue (is_below [] key)
above_empty [] h = absurd (h refl)
above_empty (x ∷ xs) h = refl

-- what all keys are, each that has a content is
key_all : (P : List ℕ → Type 0) (items : List Item) → AllByRecursion (λ item. P item.key) items → (key : List ℕ) (content : Content) → content_at items key ≡ Some content → P key
key_all P [] all key content e = absurd cc
key_all P (item ∷ items) all key content e = by_cmp (key_cmp key item.key) refl e (key_all P items all.1 key content)
  where
    by_cmp : (o : Ordering) → key_cmp key item.key ≡ o → (if is_eq o then Some item.content else content_at items key) ≡ Some content → (content_at items key ≡ Some content → P key) → P key
    by_cmp Less is there more = more there
    by_cmp Equal is there more = subst P (sym (exact_bytes key item.key is)) all.0
    by_cmp Greater is there more = more there

-- a key that has a content is in the range
pub inside : (page : Page) → IsRuled page → (key : List ℕ) (content : Content) → content_at page.items key ≡ Some content → IsTrue (is_in_range page.low page.high key)
inside page rules key content e =
    let in_range = λ (item : Item). IsTrue (is_in_range page.low page.high item.key) in
    key_all (λ k. IsTrue (is_in_range page.low page.high k)) page.items (recursion_from_All in_range page.items rules.is_page.within) key content e

-- another key in the range than the low one is above it
pub above_low : (page : Page) (key : List ℕ) → IsTrue (is_in_range page.low page.high key) → key ≢ page.low → key_cmp page.low key ≡ Less
above_low page key covered other = by_order page.low key
    (λ less. less)
    (λ same. absurd (other (sym same)))
    (λ more. let not_below : is_below key page.low ≡ false = not_true (is_below key page.low) (and_left _ _ covered) in let is : is_below key page.low ≡ true = ap is_lt more in absurd cc)

-- what has a child is an index page
pub index_at : (page : Page) → IsRuled page → (key : List ℕ) (child : ℕ) (held : Bool) → content_at page.items key ≡ Some (Child child held) → 0 < page.level
index_at page rules key child held e =
    content_all (IsOfLevel page.level) page.items (recursion_from_All (λ (item : Item). IsOfLevel page.level item.content) page.items rules.is_page.kinds) key (Child child held) e

-- the first term's key has it, unheld
pub at_first : (low : List ℕ) (items : List Item) (key : List ℕ) (found : Option Content) → IsFirstAt low items → content_at items key ≡ found → key ≡ low
    → (content : Content) × (found ≡ Some content) × (is_held content ≡ false)
at_first low [] key found first e same = absurd first
at_first low (item ∷ items) key found first e same = (item.content, (sym e ∙ rw (← first.0 ∙ sym same) (found_first item items)), first.1)

-- so a held term is another one
pub held_inner : (low : List ℕ) (items : List Item) (key : List ℕ) (child : ℕ) → IsFirstAt low items → content_at items key ≡ Some (Child child true) → key ≢ low
held_inner low items key child first e same =
    let f = at_first low items key (Some (Child child true)) first e same in
    let is : true ≡ is_held f.0 = ap is_held (same_Some _ _ f.1) in
    let no = f.2 in
    absurd cc

-- a delta of a page's term over its parent is one that a row can spell
pub links : (parent page : Version) (made : Page) → Makes parent.chain made → IsRuled made → key_cmp made.low (low_in page.chain) ≡ Less
    → IsSpellableLink (level_in parent.chain) parent.head (low_in page.chain) page.pid
links parent page made makes rules above = record { top = rw (← makes.level) rules.top; over = parent.is_row; above = not_empty made.low (low_in page.chain) above; names = page.is_pid }

-- the rules of a page ask neither what its right is nor whether it is removed
pub page_but : {page : Page} (right : Option ℕ) (removed : Bool) → IsPage page → IsPage (record page { right = right; removed = removed })
page_but right removed h = record { spans = h.spans; ordered = h.ordered; within = h.within; kinds = h.kinds }

pub ruled_but : {page : Page} (removed : Bool) → IsRuled page → IsRuled (record page { removed = removed })
ruled_but {page = page} removed h = record { is_page = page_but page.right removed h.is_page; ends = h.ends; top = h.top; terms = h.terms }
