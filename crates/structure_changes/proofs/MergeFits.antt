-- A merge fits its page: the terms that come in are unheld, so the rules stay.
use Rattle.structure_changes.proofs.Words.{◌≡◌, ◌≢◌, ◌<◌, ◌≤◌, ◌+◌, ◌++◌, ℕ, List, [], ◌∷◌, length, Bool, true, false, Some, refl, sym, ap, ◌∙◌, subst, arith, if◌then◌else◌, is_some, IsTrue}
use Rattle.structure_changes.proofs.Words.{AllByRecursion, is_below, Item, Page, AreApart, AreTerms, IsFirstAt, IsRuled, held_count, is_held, below_from, Record, Merge}
use Rattle.structure_changes.proofs.Words.{IsSpellable, IsSpellablePage, high_in, level_in, low_in, right_in, FitsOver, IsFitted, Makes, fits_over, made_children, made_right, ruled, Version}
use Rattle.base_page.proofs.CutLaws.{IsPage-joined, content_at-joined}
use Rattle.deltas.specs.declared.record.Record.TheVariants as kind
use Rattle.deltas.specs.Fits.{FitsMerge}
use Rattle.structure_changes.specs.Merges.{CanMerge, IsMergePlan, merge_of}
use Rattle.structure_changes.proofs.Places.{not_empty, of_made, page_but, ruled_but}

none_held : List Item → Type 0
none_held items = AllByRecursion (λ (item : Item). is_held item.content ≡ false) items

first_append : (low : List ℕ) (items others : List Item) → IsFirstAt low items → IsFirstAt low (items ++ others)
first_append low [] others first = absurd first
first_append low (item ∷ items) others first = first

apart_unheld : (items : List Item) → none_held items → AreApart items
unfolding none_held
apart_unheld [] none = tt
apart_unheld (item ∷ []) none = tt
apart_unheld (item ∷ next ∷ items) none = ((λ held. none.1.0), apart_unheld (next ∷ items) none.1)

apart_append : (items others : List Item) → AreApart items → none_held others → AreApart (items ++ others)
unfolding none_held
apart_append [] others apart none = apart_unheld others none
apart_append (item ∷ []) [] apart none = tt
apart_append (item ∷ []) (next ∷ others) apart none = ((λ held. none.0), apart_unheld (next ∷ others) none)
apart_append (item ∷ next ∷ items) others apart none = (apart.0, apart_append (next ∷ items) others apart.1 none)

count_unheld : (items : List Item) → none_held items → held_count items ≡ 0
unfolding none_held
count_unheld [] none = refl
count_unheld (item ∷ items) none = rw (none.0, count_unheld items none.1) refl

held_append : (items others : List Item) → none_held others → held_count (items ++ others) ≡ held_count items
held_append [] others none = count_unheld others none
held_append (item ∷ items) others none = ap (λ n. (if is_held item.content then 1 else 0) + n) (held_append items others none)

-- the terms of a page, with those of the page to its right, of which none is held
terms_append : (low : List ℕ) (items others : List Item) → AllByRecursion (λ (item : Item). is_held item.content ≡ false) others → AreTerms low items → AreTerms low (items ++ others)
unfolding none_held
terms_append low items others none terms = record
    { first = first_append low items others terms.first; few = rw (held_append items others none) terms.few; apart = apart_append items others terms.apart none }

-- A page to the right comes in, which has a right exactly where it has an end, and of whose terms none is held.
merge_fits : (chain : List Record) (page : Page) (merge : Merge) → Makes chain page → IsRuled page → IsSpellable (kind.Merge merge) → FitsMerge page merge
    → is_some merge.right ≡ is_some merge.high → (0 < page.level → AllByRecursion (λ (item : Item). is_held item.content ≡ false) merge.items) → FitsOver chain (kind.Merge merge)
merge_fits chain page merge makes rules spellable fit ends unheld =
    let next : Page = record { level = merge.level; low = merge.low; high = merge.high; right = merge.right; removed = false; items = merge.items } in
    let joined = IsPage-joined page next rules.is_page fit.merged fit.meets merge.right (sym fit.level) fit.room in
    fits_over chain (kind.Merge merge) page (record page { high = merge.high; right = merge.right; items = page.items ++ merge.items }) refl spellable makes fit
    (record { ascending = joined.ordered.ascending; contents = content_at-joined page next rules.is_page fit.merged fit.meets; level = refl; low = refl; high = refl; right = refl; removed = refl })
    (record {
      is_page = page_but merge.right page.removed joined;
      ends = ends;
      top = rules.top;
      terms = λ index. terms_append page.low page.items merge.items (unheld index) (rules.terms index);
    })

unheld_from : (items : List Item) → held_count items ≡ 0 → AllByRecursion (λ (item : Item). is_held item.content ≡ false) items
unheld_from [] none = tt
unheld_from (item ∷ items) none = by_mark (is_held item.content) refl none (unheld_from items)
  where
    by_mark : (b : Bool) → is_held item.content ≡ b → (if b then 1 else 0) + held_count items ≡ 0 → (held_count items ≡ 0 → AllByRecursion (λ (each : Item). is_held each.content ≡ false) items)
        → (is_held item.content ≡ false) × AllByRecursion (λ (each : Item). is_held each.content ≡ false) items
    by_mark true is count rest = absurd (omega (arith, count))
    by_mark false is count rest = (is, rest (omega (arith, count)))

-- the removed page, as it is copied
module _ (left removed : Version) (made merged : Page) (fitted : IsFitted removed.chain) (makes : Makes left.chain made) (rules : IsRuled made)
    (makes_merged : Makes removed.chain merged) (can : CanMerge left removed) where
  abbrev copied : Page
  copied = record { level = level_in left.chain; low = low_in removed.chain; high = high_in removed.chain; right = right_in removed.chain; removed = false; items = merged.items }

  copied_is : copied ≡ record merged { removed = false }
  copied_is =
      λ i. record
      { level = (sym can.level ∙ sym makes_merged.level) i; low = sym makes_merged.low i; high = sym makes_merged.high i; right = sym makes_merged.right i; removed = false; items = merged.items }

  stands : IsSpellablePage (record merged { removed = false })
  stands =
      record {
        ruled = ruled_but false (ruled removed.chain merged fitted makes_merged);
        alive = refl;
        right = made_right removed.chain merged fitted makes_merged;
        children = made_children removed.chain merged fitted makes_merged;
      }

  copied_stands : IsSpellablePage copied
  copied_stands = subst IsSpellablePage (sym copied_is) stands

  inner : low_in removed.chain ≢ []
  inner =
      let high : made.high ≡ Some (low_in removed.chain) = makes.high ∙ can.next_to.high in
      let above : IsTrue (is_below made.low (low_in removed.chain)) = rw high at rules.is_page.spans in
      not_empty made.low (low_in removed.chain) (below_from made.low (low_in removed.chain) above)

  -- the plan of a merge is one that may be linked
  pub planned : (merge : Merge) → merge ≡ merge_of left removed merged.items → IsMergePlan left removed merge
  planned merge is =
      let few = of_made removed.chain merged (λ items. length items ≤ 4) makes_merged can.few in
      let roomy = of_made left.chain made (λ items. length items ≤ 16) makes can.roomy in
      let unheld = unheld_from merged.items (of_made removed.chain merged (λ items. held_count items ≡ 0) makes_merged can.unheld) in
      let due = merge_of left removed merged.items in
      let fit : FitsMerge made due = record
      { alive = makes.removed ∙ can.alive; level = makes.level; meets = makes.high ∙ can.next_to.high; merged = copied_stands.ruled.is_page; room = omega (arith, few, roomy) }
      in
      record {
        can = can;
        has = rw is makes_merged.items;
        is = rw is refl;
        fits =
            rw is (merge_fits left.chain made due makes rules (left.is_row, inner, few, copied_stands) fit copied_stands.ruled.ends (λ index. unheld), (let short = can.short in omega (arith, short)));
      }
