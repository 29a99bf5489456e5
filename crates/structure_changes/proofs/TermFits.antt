-- A term fits its page: an item that isn't held, put among the items, breaks no rule.
use Rattle.structure_changes.proofs.Words.{◌≡◌, ◌≢◌, ◌<◌, ◌≤◌, ℕ, suc, List, [], ◌∷◌, length, false, Some, None, refl, ◌∙◌, arith, IsTrue, Less, All-from_recursion, recursion_from_All}
use Rattle.structure_changes.proofs.Words.{key_cmp, is_in_range, Child, Item, Page, content_at, IsAscending, IsOfLevel, AreApart, AreTerms, IsRuled, held_count, is_held, Record, Term}
use Rattle.structure_changes.proofs.Words.{IsSpellable, content_in, covers, is_removed, level_in, low_in, FitsOver, Makes, by_order, fits_over, Version}
use Rattle.deltas.specs.declared.record.Record.TheVariants as kind
use Rattle.deltas.specs.Fits.{FitsTerm}
use Rattle.traces.proofs.Updated.{all_put, greater, itself, put_ascends, put_contents, put_few, with_put}
use Rattle.structure_changes.specs.Terms.{IsTermPlan, term_of}
use Rattle.structure_changes.proofs.Places.{above_low, at_first, from_made, links}

-- how many are held: as many as before
module _ (new : Item) (unheld : is_held new.content ≡ false) where
  same_held : (items : List Item) → content_at items new.key ≡ None → held_count (with_put new items) ≡ held_count items
  same_held [] lacks = rw unheld refl
  same_held (item ∷ items) lacks = by_order new.key item.key
      (λ less. rw (less, unheld) (omega arith))
      (λ same. let there : Some item.content ≡ None = rw (same, itself item.key) at lacks in cc)
      (λ more.
      let above = greater new.key item.key more in
      let rest = same_held items (rw above at lacks) in
      rw (above, rest) refl)

  -- An unheld item before others that are apart.
  before_all : (items : List Item) → AreApart items → AreApart (new ∷ items)
  before_all [] apart = tt
  before_all (item ∷ items) apart = ((λ held. let both = unheld in absurd (cc)), apart)

  -- after an item, an unheld one may stand
  after : (first : Item) (items : List Item) → AreApart (new ∷ items) → AreApart (first ∷ new ∷ items)
  after first items apart = ((λ held. unheld), apart)

  head_apart : (first : Item) (items : List Item) → AreApart (first ∷ items) → AreApart items
  head_apart first [] apart = tt
  head_apart first (item ∷ items) apart = apart.1

  apart_put : (first : Item) (items : List Item) → content_at items new.key ≡ None → AreApart (first ∷ items) → AreApart (first ∷ with_put new items)
  apart_put first [] lacks apart = ((λ held. unheld), tt)
  apart_put first (item ∷ items) lacks apart = by_order new.key item.key
      (λ less. rw less (after first (item ∷ items) (before_all (item ∷ items) apart.1)))
      (λ same. let there : Some item.content ≡ None = rw (same, itself item.key) at lacks in cc)
      (λ more.
      let above = greater new.key item.key more in
      rw above (apart.0, apart_put item items (rw above at lacks) apart.1))

  -- the terms of a page keep their rules
  terms_put : (low : List ℕ) (items : List Item) → key_cmp low new.key ≡ Less → content_at items new.key ≡ None → AreTerms low items → AreTerms low (with_put new items)
  terms_put low [] above lacks terms = absurd terms.first
  terms_put low (item ∷ items) above lacks terms =
      let more : key_cmp item.key new.key ≡ Less = rw terms.first.0 above in
      let over = greater new.key item.key more in
      let few : held_count (with_put new (item ∷ items)) ≤ 4 = rw (same_held (item ∷ items) lacks) terms.few in
      rw over (record { first = terms.first; few = rw over at few; apart = apart_put item items (rw over at lacks) terms.apart })

-- a term that fits the page fits over the chain
pub term_fits : (chain : List Record) (page : Page) (term : Term) → Makes chain page → IsRuled page → IsSpellable (kind.Term term) → FitsTerm page term
    → key_cmp page.low term.separator ≡ Less → FitsOver chain (kind.Term term)
term_fits chain page term makes rules spellable fit above =
    let new : Item = record { key = term.separator; content = Child term.child false } in
    let items = with_put new page.items in
    let are = rules.is_page.ordered in
    let in_range = λ (item : Item). IsTrue (is_in_range page.low page.high item.key) in
    let of_level = λ (item : Item). IsOfLevel page.level item.content in
    let ascending : IsAscending items = put_ascends new page.items are.ascending in
    let index : 0 < page.level = rw fit.level fit.index in
    fits_over chain (kind.Term term) page (record page { items = items }) refl spellable makes fit
    (record { ascending = ascending; contents = put_contents new page.items; level = refl; low = refl; high = refl; right = refl; removed = refl })
    (record {
      is_page = record {
        spans = rules.is_page.spans;
        ordered = record { few = put_few new page.items 24 are.ascending are.few (λ e. fit.room); ascending = ascending };
        within = All-from_recursion in_range items (all_put in_range new page.items fit.covered (recursion_from_All in_range page.items rules.is_page.within));
        kinds = All-from_recursion of_level items (all_put of_level new page.items index (recursion_from_All of_level page.items rules.is_page.kinds));
      };
      ends = rules.ends;
      top = rules.top;
      terms = λ over. terms_put new refl page.low page.items above fit.absent (rules.terms over);
    })

-- the plan of a term is one that may be linked
pub planned : (parent page : Version) (made : Page) (term : Term) → is_removed parent.chain ≡ false → Makes parent.chain made → IsRuled made → length made.items < 16 → term ≡ term_of parent page
    → is_removed page.chain ≡ false → level_in parent.chain ≡ suc (level_in page.chain) → IsTrue (covers parent.chain (low_in page.chain))
    → content_in parent.chain (low_in page.chain) ≡ None → length parent.chain ≤ 8 → IsTermPlan parent page term
planned parent page made term stands makes rules few is alive level covered absent short =
    let key = low_in page.chain in
    let inside : IsTrue (is_in_range made.low made.high key) = rw (makes.low, makes.high) covered in
    let none : content_at made.items key ≡ None = makes.items.contents key ∙ absent in
    let index : 0 < made.level = (let e = makes.level ∙ level in omega (arith, e)) in
    let inner : key ≢ made.low = λ same. (let f = at_first made.low made.items key None (rules.terms index).first none same in let clash = f.1 in absurd cc) in
    let above = above_low made key inside inner in
    let due = term_of parent page in
    let fit : FitsTerm made due = record { alive = makes.removed ∙ stands; level = makes.level; index = rw (← makes.level) index; covered = inside; absent = none; room = omega (arith, few) } in
    record {
      can = record { above = stands; alive = alive; level = level; covered = covered; absent = absent; short = short; roomy = from_made parent.chain made _ makes few };
      is = is;
      fits = rw is (term_fits parent.chain made due makes rules (rw (← makes.level) index, links parent page made makes rules above) fit above, omega (arith, short));
    }
