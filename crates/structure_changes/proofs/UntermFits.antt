-- An unterm fits its page: a held term that goes breaks no rule.
use Rattle.std.specs.List.Sorted.{IsStrictlySortedBy}
use Rattle.structure_changes.proofs.Words.{◌≡◌, ◌≤◌, ℕ, List, [], ◌∷◌, Bool, true, false, Some, None, refl, sym, ap, ◌∙◌, subst, arith, if◌then◌else◌, IsTrue, is_eq}
use Rattle.structure_changes.proofs.Words.{Less, All-from_recursion, recursion_from_All, same_Some, key_cmp, is_in_range, Child, Item, Page, content_at, IsAscending, IsOfLevel, AreApart}
use Rattle.structure_changes.proofs.Words.{IsFirstAt, IsRuled, held_count, is_held, Record, Unterm, IsSpellable, is_removed, low_in, FitsOver, IsFitted, Makes, ascends_after, by_order}
use Rattle.structure_changes.proofs.Words.{fits_over, lacks_first, ruled, Version}
use Rattle.deltas.specs.declared.record.Record.TheVariants as kind
use Rattle.deltas.specs.Fits.{FitsUnterm}
use Rattle.traces.proofs.Updated.{all_without, chosen, greater, itself, without, without_ascends, without_contents, without_few}
use Rattle.structure_changes.specs.Unterms.{CanUnterm, IsUntermPlan, unterm_of}
use Rattle.structure_changes.proofs.Places.{above_low, held_inner, index_at, inside, links, made as made_of}

without_same : (key : List ℕ) (items : List Item) → content_at items key ≡ None → without key items ≡ items
without_same key [] e = refl
without_same key (item ∷ items) e = by_test (is_eq (key_cmp key item.key)) e (without_same key items)
  where
    by_test : (b : Bool) → (if b then Some item.content else content_at items key) ≡ None → (content_at items key ≡ None → without key items ≡ items)
        → (if b then without key items else item ∷ without key items) ≡ item ∷ items
    by_test true f more = cc
    by_test false f more = ap (λ (rest : List Item). item ∷ rest) (more f)

held_without : (key : List ℕ) (items : List Item) → held_count (without key items) ≤ held_count items
held_without key [] = omega arith
held_without key (item ∷ items) =
    let rest = held_without key items in
    chosen (λ (left : List Item). held_count left ≤ held_count (item ∷ items)) (is_eq (key_cmp key item.key)) (without key items) (item ∷ without key items) (omega (arith, rest)) (omega (arith, rest))

-- a held item between two others stands between unheld ones
module _ (key : List ℕ) (child : ℕ) where
  abbrev Held : List Item → Type 0
  Held items = content_at items key ≡ Some (Child child true)

  past_held : (item : Item) (next : Item) (items : List Item) → is_held next.content ≡ true → AreApart (item ∷ next ∷ items) → AreApart (item ∷ items)
  past_held item next [] held apart = tt
  past_held item next (third ∷ items) held apart = ((λ is. absurd (let unheld = apart.0 is in cc)), apart.1.1)

  tail_apart : (item : Item) (items : List Item) → AreApart (item ∷ items) → AreApart items
  tail_apart item [] apart = tt
  tail_apart item (next ∷ items) apart = apart.1

  follows : (item next : Item) (items : List Item) → IsAscending (item ∷ next ∷ items) → key_cmp item.key next.key ≡ Less
  unfolding IsStrictlySortedBy
  follows item next items ascending = ascending.0.0

  lacks_after : (item : Item) (items : List Item) → IsAscending (item ∷ items) → content_at items item.key ≡ None
  lacks_after item [] ascending = refl
  lacks_after item (next ∷ items) ascending = lacks_first next items item.key (ascends_after item (next ∷ items) ascending) (follows item next items ascending)

  held_next : (next : Item) (items : List Item) → key ≡ next.key → Held (next ∷ items) → is_held next.content ≡ true
  held_next next items same later =
      let there : Some next.content ≡ Some (Child child true) = rw (same, itself next.key) at later in
      ap is_held (same_Some _ _ there)

  apart_without : (items : List Item) → IsAscending items → Held items → AreApart items → AreApart (without key items)
  apart_without [] ascending held apart = tt
  apart_without (item ∷ []) ascending held apart = chosen AreApart (is_eq (key_cmp key item.key)) [] (item ∷ []) tt tt
  apart_without (item ∷ next ∷ items) ascending held apart = by_order key item.key
      (λ less. absurd (let none = lacks_first item (next ∷ items) key ascending less in cc))
      (λ same. subst (λ (k : List ℕ). AreApart (without k (item ∷ next ∷ items))) (sym same)
      (rw (itself item.key) (subst AreApart (sym (without_same item.key (next ∷ items) (lacks_after item (next ∷ items) ascending))) apart.1)))
      (λ more.
      let above = greater key item.key more in
      let later : Held (next ∷ items) = rw above at held in
      rw above (by_next later (apart_without (next ∷ items) (ascends_after item (next ∷ items) ascending) later apart.1)))
    where
      by_next : Held (next ∷ items) → AreApart (without key (next ∷ items)) → AreApart (item ∷ without key (next ∷ items))
      by_next later rest = by_order key next.key
          (λ less. absurd (let none = lacks_first next items key (ascends_after item (next ∷ items) ascending) less in cc))
          (λ same. subst (λ (k : List ℕ). AreApart (item ∷ without k (next ∷ items))) (sym same) (rw (itself next.key) (subst
          (λ (l : List Item). AreApart (item ∷ l))
          (sym (without_same next.key items (lacks_after next items (ascends_after item (next ∷ items) ascending))))
          (past_held item next items (held_next next items same later) apart))))
          (λ more. let over = greater key next.key more in rw over (apart.0, rw over at rest))

  first_without : (low : List ℕ) (items : List Item) → Held items → IsFirstAt low items → IsFirstAt low (without key items)
  first_without low [] held first = first
  first_without low (item ∷ items) held first = by_test (is_eq (key_cmp key item.key)) held
    where
      by_test : (b : Bool) → (if b then Some item.content else content_at items key) ≡ Some (Child child true) → IsFirstAt low (if b then without key items else item ∷ without key items)
      by_test true there = let is : is_held item.content ≡ true = ap is_held (same_Some _ _ there) in absurd (let no = first.1 in cc)
      by_test false there = first

-- a held term goes
pub unterm_fits : (chain : List Record) (page : Page) (unterm : Unterm) → Makes chain page → IsRuled page → IsSpellable (kind.Unterm unterm)
    → FitsUnterm page unterm → FitsOver chain (kind.Unterm unterm)
unterm_fits chain page unterm makes rules spellable fit =
    let key = unterm.separator in
    let items = without key page.items in
    let are = rules.is_page.ordered in
    let in_range = λ (item : Item). IsTrue (is_in_range page.low page.high item.key) in
    let of_level = λ (item : Item). IsOfLevel page.level item.content in
    fits_over chain (kind.Unterm unterm) page (record page { items = items }) refl spellable makes fit
    (record { ascending = without_ascends key page.items are.ascending; contents = without_contents key page.items; level = refl; low = refl; high = refl; right = refl; removed = refl })
    (record {
      is_page = record {
        spans = rules.is_page.spans;
        ordered = record { few = omega (arith, without_few key page.items, are.few); ascending = without_ascends key page.items are.ascending };
        within = All-from_recursion in_range items (all_without in_range key page.items (recursion_from_All in_range page.items rules.is_page.within));
        kinds = All-from_recursion of_level items (all_without of_level key page.items (recursion_from_All of_level page.items rules.is_page.kinds));
      };
      ends = rules.ends;
      top = rules.top;
      terms = λ index.
          let terms = rules.terms index in
          record {
            first = first_without key unterm.child page.low page.items fit.there terms.first;
            few = (let fewer = held_without key page.items in let few = terms.few in omega (arith, fewer, few));
            apart = apart_without key unterm.child page.items are.ascending fit.there terms.apart;
          };
    })

-- the plan of an unterm is one that may be linked
pub planned : (parent left removed : Version) (unterm : Unterm) → is_removed parent.chain ≡ false → IsFitted parent.chain → unterm ≡ unterm_of parent removed
    → CanUnterm parent left removed → IsUntermPlan parent left removed unterm
planned parent left removed unterm stands fitted is can =
    let key = low_in removed.chain in
    let (made, makes) = made_of parent.chain fitted in
    let rules = ruled parent.chain made fitted makes in
    let there : content_at made.items key ≡ Some (Child removed.pid true) = makes.items.contents key ∙ can.held in
    let index = index_at made rules key removed.pid true there in
    let inner = held_inner made.low made.items key removed.pid (rules.terms index).first there in
    let above = above_low made key (inside made rules key (Child removed.pid true) there) inner in
    let fit : FitsUnterm made (unterm_of parent removed) = record { alive = makes.removed ∙ stands; level = makes.level; there = there } in
    record {
      can = can;
      is = is;
      fits =
          rw is (
            unterm_fits parent.chain made (unterm_of parent removed) makes rules (rw (← makes.level) index, links parent removed made makes rules above)
                fit,
            (let short = can.short in omega (arith, short)),
          );
    }
