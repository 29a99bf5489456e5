-- A split fits its page: both parts of the items keep the rules.
use Rattle.std.proofs.Common.{◌≡◌, ◌≢◌, ◌<◌, ◌≤◌, ◌+◌, ◌/◌, ℕ, zero, suc, List, [], ◌∷◌, length, take, drop, Bool, true, false, Some, None, refl, sym, ap, ◌∙◌, arith}
use Rattle.std.specs.Prelude.{if◌then◌else◌, IsTrue, not, slice_index_or}
use Rattle.structure_changes.proofs.Words.{AllByRecursion, HoldsAt, is_lt, All-from_recursion, recursion_from_All, is_below, is_in_range, is_under, Content, Value, Child, Item, Page, IsPage}
use Rattle.structure_changes.proofs.Words.{IsOfLevel, content_at, AreApart, AreTerms, IsFirstAt, IsRuled, held_count, is_held, above, and_both, below_from, HasPid, IsPid, IsSpellable}
use Rattle.structure_changes.proofs.Words.{IsSpellablePage, content_in, high_in, is_removed, level_in, right_in, FitsOver, IsFitted, Makes, SplitPlan, Version}
use Rattle.deltas.specs.declared.record.Record.TheVariants as kind
use Rattle.deltas.specs.declared.record.Split.{Split}
use Rattle.deltas.specs.Fits.{FitsSplit}
use Rattle.traces.proofs.FittedLaws.{fits_over, made_children, made_right, ruled as rules_of}
use Rattle.structure_changes.specs.Splits.{IsSplitPlace, IsSplitPlan, IsUnheldAt}
use Rattle.structure_changes.proofs.Places.{from_made, not_empty, page_but}

-- the first items, and the others

held_take : (n : ℕ) (items : List Item) → held_count (take n items) ≤ held_count items
held_take zero items = omega arith
held_take (suc n) [] = omega arith
held_take (suc n) (item ∷ items) = let rest = held_take n items in omega (arith, rest)

held_drop : (n : ℕ) (items : List Item) → held_count (drop n items) ≤ held_count items
held_drop zero items = omega arith
held_drop (suc n) [] = omega arith
held_drop (suc n) (item ∷ items) = let rest = held_drop n items in omega (arith, rest)

apart_take : (n : ℕ) (items : List Item) → AreApart items → AreApart (take n items)
apart_take (suc (suc n)) (item ∷ next ∷ items) h = (h.0, apart_take (suc n) (next ∷ items) h.1)
apart_take (suc zero) (item ∷ items) h = tt
apart_take n items h = tt

apart_rest : (item : Item) (items : List Item) → AreApart (item ∷ items) → AreApart items
apart_rest item [] h = tt
apart_rest item (next ∷ items) h = h.1

apart_drop : (n : ℕ) (items : List Item) → AreApart items → AreApart (drop n items)
apart_drop zero items h = h
apart_drop (suc n) [] h = tt
apart_drop (suc n) (item ∷ items) h = apart_drop n items (apart_rest item items h)

-- of two neighbours at most one is held
next_unheld : (items : List Item) (n : ℕ) (d : Item) → AreApart items → suc n < length items → is_held (slice_index_or items n d).content ≡ true
    → is_held (slice_index_or items (suc n) d).content ≡ false
next_unheld [] n d h lt e = absurd (omega arith)
next_unheld (item ∷ []) n d h lt e = absurd (omega arith)
next_unheld (item ∷ next ∷ items) zero d h lt e = h.0 e
next_unheld (item ∷ next ∷ items) (suc n) d h lt e = next_unheld (next ∷ items) n d h.1 (omega (arith, lt)) e

terms_take : (low : List ℕ) (n : ℕ) (items : List Item) → 0 < n → AreTerms low items → AreTerms low (take n items)
terms_take low zero items some h = absurd (omega arith)
terms_take low (suc n) [] some h = absurd h.first
terms_take low (suc n) (item ∷ items) some h = record
    { first = h.first; few = (let more = held_take (suc n) (item ∷ items) in let few = h.few in omega (arith, more, few)); apart = apart_take (suc n) (item ∷ items) h.apart }

first_drop : (separator : List ℕ) (n : ℕ) (items : List Item) (d : Item) → n < length items → (slice_index_or items n d).key ≡ separator
    → is_held (slice_index_or items n d).content ≡ false → IsFirstAt separator (drop n items)
first_drop separator n [] d lt e unheld = absurd (omega arith)
first_drop separator zero (item ∷ items) d lt e unheld = (e, unheld)
first_drop separator (suc n) (item ∷ items) d lt e unheld = first_drop separator n items d (omega (arith, lt)) e unheld

terms_drop : (low separator : List ℕ) (n : ℕ) (items : List Item) (d : Item) → n < length items → (slice_index_or items n d).key ≡ separator
    → is_held (slice_index_or items n d).content ≡ false → AreTerms low items → AreTerms separator (drop n items)
terms_drop low separator n items d lt e unheld h = record
    { first = first_drop separator n items d lt e unheld; few = (let more = held_drop n items in let few = h.few in omega (arith, more, few)); apart = apart_drop n items h.apart }

-- an item to stand where there is none
abbrev blank : Item
blank = record { key = []; content = Child 0 false }

-- the nearest place is the middle one, or the next one, where that one's item is held
module _ (items : List Item) (apart : AreApart items) (many : 16 ≤ length items) where
  abbrev middle : ℕ
  middle = length items / 2

  pub middle_place : IsUnheldAt items middle → IsSplitPlace items middle
  middle_place unheld = record {
    inside = omega (arith, many);
    unheld = unheld;
    nearest = λ other lt free. omega arith;
    higher = λ other lt free same. omega (arith, same);
  }

  pub next_place : HoldsAt (λ item. is_held item.content ≡ true) items middle → IsSplitPlace items (middle + 1)
  next_place held = record {
    inside = omega (arith, many);
    unheld = λ d. rw (next_is) (next_unheld items middle d apart (omega (arith, many)) (held d));
    nearest = λ other lt free. (let apart = other_than other free in omega (arith, apart));
    higher = λ other lt free same. (let apart = other_than other free in omega (arith, same, apart));
  }
    where
      next_is : middle + 1 ≡ suc middle
      next_is = omega arith

      other_than : (other : ℕ) → IsUnheldAt items other → other ≢ middle
      other_than other free same =
          let yes = held blank in
          let no : is_held (slice_index_or items middle blank).content ≡ false = rw (← same) (free blank) in
          absurd cc

-- so are the items of each page: a leaf's aren't terms
values_apart : (items : List Item) → AllByRecursion (λ (item : Item). IsOfLevel 0 item.content) items → AreApart items
values_apart [] h = tt
values_apart (item ∷ []) h = tt
values_apart (item ∷ next ∷ items) h = ((λ held. absurd (value item.content h.0 held)), values_apart (next ∷ items) h.1)
  where
    value : (content : Content) → IsOfLevel 0 content → is_held content ≡ true → ⊥
    value (Value v) of held = absurd cc
    value (Child child mark) of held = omega (arith, of)

pub apart : (page : Page) → IsRuled page → AreApart page.items
apart page rules = by_level page.level refl
  where
    by_level : (level : ℕ) → page.level ≡ level → AreApart page.items
    by_level zero is = values_apart page.items (recursion_from_All (λ (item : Item). IsOfLevel 0 item.content) page.items (rw (← is) rules.is_page.kinds))
    by_level (suc level) is = (rules.terms (omega (arith, is))).apart

asym : (a b : List ℕ) → IsTrue (is_below a b) → is_below b a ≡ false
asym a b h = ap is_lt (above a b (below_from a b h))

pids_drop : (n : ℕ) (items : List Item) → AllByRecursion (λ item. HasPid item.content) items → AllByRecursion (λ item. HasPid item.content) (drop n items)
pids_drop zero items h = h
pids_drop (suc n) [] h = tt
pids_drop (suc n) (item ∷ items) h = pids_drop n items h.1

-- what cut_at gives
pub record IsCutAt (whole lower upper : Page) (place : ℕ) : Type 0 where
  pub pages : IsPage lower × IsPage upper
  pub separator : (d : Item) → (slice_index_or whole.items place d).key ≡ upper.low
  pub is_lower : (right : ℕ) × (lower ≡ record whole { high = Some upper.low; right = Some right; items = take place whole.items })
  pub is_upper : upper ≡ record whole { low = upper.low; items = drop place whole.items }
  pub below : (q : List ℕ) → content_at lower.items q ≡ (if is_below q upper.low then content_at whole.items q else None)
  pub above : (q : List ℕ) → content_at upper.items q ≡ (if is_below q upper.low then None else content_at whole.items q)

flipped : {X : Type 0} (b : Bool) (x y : X) → (if b then x else y) ≡ (if not b then y else x)
flipped true x y = refl
flipped false x y = refl

module _ (page : Version) (whole lower upper : Page) (place : ℕ) (fitted : IsFitted page.chain) (makes : Makes page.chain whole) (alive : is_removed page.chain ≡ false)
    (short : length page.chain ≤ 8) (many : 16 ≤ length whole.items) (some : 0 < place) (is_place : IsSplitPlace whole.items place) (cut : IsCutAt whole lower upper place) where
  ruled : IsRuled whole
  ruled = rules_of page.chain whole fitted makes

  upper_ruled : IsRuled upper
  upper_ruled =
      let is = cut.is_upper in
      record {
        is_page = cut.pages.1;
        ends = rw is ruled.ends;
        top = rw is ruled.top;
        terms = λ index.
            let over : 0 < whole.level = rw is at index in
            let terms = ruled.terms over in
            rw is (terms_drop whole.low upper.low place whole.items blank is_place.inside (cut.separator blank) (is_place.unheld blank) terms);
      }

  upper_stands : IsSpellablePage upper
  upper_stands =
      let is = cut.is_upper in
      let pids = recursion_from_All (λ (item : Item). HasPid item.content) whole.items (made_children page.chain whole fitted makes) in
      record {
        ruled = upper_ruled;
        alive = ap (λ (p : Page). p.removed) is ∙ makes.removed ∙ alive;
        right = rw (ap (λ (p : Page). p.right) is) (made_right page.chain whole fitted makes);
        children = All-from_recursion (λ (item : Item). HasPid item.content) upper.items
            (rw (ap (λ (p : Page). p.items) is) (pids_drop place whole.items pids));
      }

  inner : IsTrue (is_below whole.low upper.low)
  inner = let p = rw cut.is_lower.1 at cut.pages.0 in p.spans

  under_high : IsTrue (is_under upper.low whole.high)
  under_high = let same : upper.high ≡ whole.high = ap (λ (p : Page). p.high) cut.is_upper in rw (← same) cut.pages.1.spans

  covered : IsTrue (is_in_range whole.low whole.high upper.low)
  covered = and_both _ _ (ap not (asym whole.low upper.low inner)) under_high

  module _ (right : ℕ) (is_pid : IsPid right) where
    abbrev half : Page
    half = record whole { high = Some upper.low; right = Some right; items = take place whole.items }

    abbrev split : Split
    split = record { level = level_in page.chain; next = page.head; separator = upper.low; page = right }

    half_ruled : IsRuled half
    half_ruled =
        record {
          is_page = page_but (Some right) whole.removed (rw cut.is_lower.1 at cut.pages.0);
          ends = refl;
          top = ruled.top;
          terms = λ index. terms_take whole.low place whole.items some (ruled.terms index);
        }

    fits_whole : FitsSplit whole split
    fits_whole = record { alive = makes.removed ∙ alive; level = makes.level; covered = covered; inner = inner }

    spellable : IsSpellable (kind.Split split)
    spellable = record { top = rw (← makes.level) ruled.top; over = page.is_row; above = not_empty whole.low upper.low (below_from whole.low upper.low inner); names = is_pid }

    split_fits : FitsOver page.chain (kind.Split split)
    split_fits =
        let p = rw cut.is_lower.1 at cut.pages.0 in
        let lower_items : lower.items ≡ take place whole.items = ap (λ (l : Page). l.items) cut.is_lower.1 in
        fits_over page.chain (kind.Split split) whole half refl spellable makes fits_whole
        (record {
          ascending = p.ordered.ascending;
          contents = λ key. ap (λ (l : List Item). content_at l key) (sym lower_items) ∙ cut.below key ∙ flipped (is_below key upper.low) (content_at whole.items key) None;
          level = refl;
          low = refl;
          high = refl;
          right = refl;
          removed = refl;
        })
        half_ruled

  not_below : (key : List ℕ) → is_below key upper.low ≡ false → content_at upper.items key ≡ content_in page.chain key
  not_below key e = (let a = cut.above key in rw e at a) ∙ makes.items.contents key

  upper_is : upper ≡ record { level = level_in page.chain; low = upper.low; high = high_in page.chain; right = right_in page.chain; removed = false; items = upper.items }
  upper_is =
      let level : upper.level ≡ level_in page.chain = ap (λ (p : Page). p.level) cut.is_upper ∙ makes.level in
      let high : upper.high ≡ high_in page.chain = ap (λ (p : Page). p.high) cut.is_upper ∙ makes.high in
      let right : upper.right ≡ right_in page.chain = ap (λ (p : Page). p.right) cut.is_upper ∙ makes.right in
      let removed : upper.removed ≡ false = ap (λ (p : Page). p.removed) cut.is_upper ∙ makes.removed ∙ alive in
      λ i. record { level = level i; low = upper.low; high = high i; right = right i; removed = removed i; items = upper.items }

  abbrev due : SplitPlan
  due = record { upper = upper; next = page.head }

  pub planned : IsSplitPlan page due
  planned = record {
    can = record { alive = alive; short = short; wide = from_made page.chain whole _ makes many };
    items = whole.items;
    has = makes.items;
    place = place;
    is_place = is_place;
    is_upper = ap (λ (p : Page). p.items) cut.is_upper;
    separator = cut.separator;
    base = ap kind.Base upper_is;
    over = refl;
    above = rw (← makes.low) inner;
    below = rw (← makes.high) under_high;
    alike = not_below;
    stands = (upper, refl, upper_stands);
    fits = λ right is_pid.
        let level : upper.level ≡ level_in page.chain = ap (λ (p : Page). p.level) cut.is_upper ∙ makes.level in
        rw level (split_fits right is_pid, omega (arith, short));
  }
