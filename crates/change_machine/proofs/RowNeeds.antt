-- Which rows a plan needs, and what the ones that are taken for it come to.
use Rattle.change_machine.proofs.Words.{◌≡◌, ◌<◌, ◌≤◌, inl, inr, ◌+◌, ◌*◌, ℕ, zero, suc, List, [], ◌∷◌, ◌++◌, length, take, Bool, true, false, refl, sym, ap, arith, ltb, not, ◌&&◌}
use Rattle.change_machine.proofs.Words.{if◌then◌else◌, ltb-true, ltb-false, Limits, Record, rows_needed, split_to, Plan, Install, Root, Unlink, has_rows, wanted_from}
use Rattle.std.proofs.Common.{◌⊎◌, ◌-◌, ◌/◌, length-append, get_or}
use Rattle.std.specs.Prelude.{◌||◌}
use Rattle.deltas.specs.Sizes.{delta_row, page_row, record_size, row_from}
use Rattle.deltas.specs.declared.record.Record.TheVariants as kind
use Rattle.structure_changes.specs.declared.plan.Plan.TheVariants.{Split}
use Rattle.change_machine.specs.Bounded.{rows_missing}
use Rattle.change_machine.specs.Moves.{lacks_lower, lower_from, upper_from}
use Rattle.change_machine.specs.Spares.{AreStacked, last_of, least_at, second_of}

-- ---- the last rows of a list
get_front : (rows : List ℕ) (n i : ℕ) → i < length rows → get_or (rows ++ n ∷ []) i 0 ≡ get_or rows i 0
get_front [] n i below = absurd (omega (arith, below))
get_front (row ∷ rows) n zero below = refl
get_front (row ∷ rows) n (suc i) below = get_front rows n i (omega (arith, below))

get_push : (rows : List ℕ) (n : ℕ) → get_or (rows ++ n ∷ []) (length rows) 0 ≡ n
get_push [] n = refl
get_push (row ∷ rows) n = get_push rows n

pub last_push : (rows : List ℕ) (n : ℕ) → last_of (rows ++ n ∷ []) ≡ n
last_push rows n =
    let long = length-append rows (n ∷ []) in
    let at : length (rows ++ n ∷ []) - 1 ≡ length rows = omega (arith, long) in
    rw at (get_push rows n)

second_push : (rows : List ℕ) (n : ℕ) → 0 < length rows → second_of (rows ++ n ∷ []) ≡ last_of rows
second_push rows n some =
    let long = length-append rows (n ∷ []) in
    let at : length (rows ++ n ∷ []) - 2 ≡ length rows - 1 = omega (arith, long) in
    rw at (get_front rows n (length rows - 1) (omega (arith, some)))

-- the rows but for the last one, and but for the last two
pub rows_last : (rows : List ℕ) → 1 ≤ length rows → rows ≡ take (length rows - 1) rows ++ last_of rows ∷ []
rows_last [] some = absurd (omega (arith, some))
rows_last (a ∷ []) some = refl
rows_last (a ∷ b ∷ rows) some = let less : length (a ∷ b ∷ rows) - 1 ≡ suc (length (b ∷ rows) - 1) = omega arith in rw less (ap (λ rest. a ∷ rest) (rows_last (b ∷ rows) (omega arith)))

pub rows_two : (rows : List ℕ) → 2 ≤ length rows → rows ≡ (take (length rows - 2) rows ++ second_of rows ∷ []) ++ last_of rows ∷ []
rows_two [] some = absurd (omega (arith, some))
rows_two (a ∷ []) some = absurd (omega (arith, some))
rows_two (a ∷ b ∷ []) some = refl
rows_two (a ∷ b ∷ c ∷ rows) some =
    let less : length (a ∷ b ∷ c ∷ rows) - 1 ≡ suc (length (b ∷ c ∷ rows) - 1) = omega arith in
    let two : length (a ∷ b ∷ c ∷ rows) - 2 ≡ suc (length (b ∷ c ∷ rows) - 2) = omega arith in
    rw (less, two) (ap (λ rest. a ∷ rest) (rows_two (b ∷ c ∷ rows) (omega arith)))

-- behind its first row a longer list has the same last ones
pub last_behind : (a b : ℕ) (rows : List ℕ) → last_of (a ∷ b ∷ rows) ≡ last_of (b ∷ rows)
last_behind a b rows = let less : length (a ∷ b ∷ rows) - 1 ≡ suc (length (b ∷ rows) - 1) = omega arith in rw less refl

pub second_behind : (a b c : ℕ) (rows : List ℕ) → second_of (a ∷ b ∷ c ∷ rows) ≡ second_of (b ∷ c ∷ rows)
second_behind a b c rows = let less : length (a ∷ b ∷ c ∷ rows) - 2 ≡ suc (length (b ∷ c ∷ rows) - 2) = omega arith in rw less refl

-- ---- what a plan's rows are
page_rows : (limits : Limits) (size : ℕ) → (page_row limits size ≡ limits.narrow_rows) ⊎ (page_row limits size ≡ limits.wide_from)
page_rows limits size = go (ltb limits.page_words size)
  where
    go : (b : Bool) → ((if b then limits.wide_from else limits.narrow_rows) ≡ limits.narrow_rows) ⊎ ((if b then limits.wide_from else limits.narrow_rows) ≡ limits.wide_from)
    go true = inr refl
    go false = inl refl

delta_rows : (limits : Limits) (size : ℕ) → (delta_row limits size ≡ 0) ⊎ (delta_row limits size ≡ limits.narrow_rows)
delta_rows limits size = go (ltb limits.narrow_words size)
  where
    go : (b : Bool) → ((if b then limits.narrow_rows else 0) ≡ 0) ⊎ ((if b then limits.narrow_rows else 0) ≡ limits.narrow_rows)
    go true = inr refl
    go false = inl refl

-- a record's first row is the first one, or the first one of a width
abbrev IsFirst : Limits → ℕ → Type 0
IsFirst limits row = (row ≡ 0) ⊎ (row ≡ limits.narrow_rows) ⊎ (row ≡ limits.wide_from)

pub is_first : (limits : Limits) (content : Record) → IsFirst limits (row_from limits content)
is_first limits (kind.Base page) = inr (page_rows limits (record_size (kind.Base page)))
is_first limits (kind.Merge merge) = inr (page_rows limits (record_size (kind.Merge merge)))
is_first limits (kind.Put put) = of_delta limits (kind.Put put) (delta_rows limits (record_size (kind.Put put)))
  where
    of_delta : (limits : Limits) (content : Record) → (delta_row limits (record_size content) ≡ 0) ⊎ (delta_row limits (record_size content) ≡ limits.narrow_rows)
        → IsFirst limits (delta_row limits (record_size content))
    of_delta limits content (inl e) = inl e
    of_delta limits content (inr e) = inr (inl e)
is_first limits (kind.Delete delete) = elim (delta_rows limits (record_size (kind.Delete delete))) [ inl e ↦ inl e | inr e ↦ inr (inl e) ]
is_first limits (kind.Split split) = elim (delta_rows limits (record_size (kind.Split split))) [ inl e ↦ inl e | inr e ↦ inr (inl e) ]
is_first limits (kind.Term term) = elim (delta_rows limits (record_size (kind.Term term))) [ inl e ↦ inl e | inr e ↦ inr (inl e) ]
is_first limits (kind.Hold hold) = elim (delta_rows limits (record_size (kind.Hold hold))) [ inl e ↦ inl e | inr e ↦ inr (inl e) ]
is_first limits (kind.Remove remove) = elim (delta_rows limits (record_size (kind.Remove remove))) [ inl e ↦ inl e | inr e ↦ inr (inl e) ]
is_first limits (kind.Unterm unterm) = elim (delta_rows limits (record_size (kind.Unterm unterm))) [ inl e ↦ inl e | inr e ↦ inr (inl e) ]

-- where all rows have one width, each has room
pub one_width : (limits : Limits) (content : Record) → limits.is_large ≡ false → row_from limits content ≡ 0
one_width limits content small =
    let narrow = (limits.alike small).narrow in
    let pages = (limits.alike small).pages in
    elim (is_first limits content) [ inl e ↦ e | inr (inl e) ↦ omega (arith, e, narrow) | inr (inr e) ↦ omega (arith, e, pages) ]

record NeedsRows (limits : Limits) (plan : Plan) : Type 0 where
  upper : IsFirst limits (upper_from limits plan)
  lower : (lower_from limits plan ≡ 0) ⊎ (lower_from limits plan ≡ limits.narrow_rows)
  few : rows_needed plan ≤ 2
  two : 2 ≤ rows_needed plan → limits.narrow_rows ≤ upper_from limits plan
  one : rows_needed plan ≤ 1 → lower_from limits plan ≡ 0
  beside : 0 < lower_from limits plan → (2 ≤ rows_needed plan) × (limits.narrow_rows ≤ upper_from limits plan)

needs : (limits : Limits) (plan : Plan) → NeedsRows limits plan
needs limits (Install pid head content) =
    record {
      upper = is_first limits content;
      lower = inl refl;
      few = omega arith;
      two = λ two. absurd (omega (arith, two));
      one = λ one. refl;
      beside = λ some. absurd (omega (arith, some));
    }
needs limits (Split pid plan) =
    let pages = page_rows limits (record_size (kind.Base plan.upper)) in
    let ordered = limits.widths.ordered in
    record {
      upper = inr pages;
      lower = delta_rows limits (record_size (kind.Split (split_to plan 0)));
      few = omega arith;
      two = λ two. elim pages [ inl e ↦ omega (arith, e) | inr e ↦ omega (arith, e, ordered) ];
      one = λ one. absurd (omega (arith, one));
      beside = λ some. (omega arith, elim pages [ inl e ↦ omega (arith, e) | inr e ↦ omega (arith, e, ordered) ]);
    }
needs limits (Root left root) = record {
  upper = inr (page_rows limits (record_size (kind.Base root)));
  lower = inl refl;
  few = omega arith;
  two = λ two. absurd (omega (arith, two));
  one = λ one. refl;
  beside = λ some. absurd (omega (arith, some));
}
needs limits (Unlink pid head unterm removal) = record
    { upper = is_first limits (kind.Unterm unterm); lower = inl refl; few = omega arith; two = λ two. absurd (omega (arith, two)); one = λ one. refl; beside = λ some. absurd (omega (arith, some)) }

-- the row that is wanted is the first one, or the first one of a width
pub wanted_first : (limits : Limits) (plan : Plan) (rows : List ℕ) → IsFirst limits (wanted_from limits plan rows)
wanted_first limits plan rows = go (lacks_lower limits plan rows)
  where
    go : (lacks : Bool) → IsFirst limits (if lacks then lower_from limits plan else upper_from limits plan)
    go true = elim (needs limits plan).lower [ inl e ↦ inl e | inr e ↦ inr (inl e) ]
    go false = (needs limits plan).upper

-- it is the first one of its word, and there
pub wanted_there : (limits : Limits) (plan : Plan) (rows : List ℕ)
    → (64 * (wanted_from limits plan rows / 64) ≡ wanted_from limits plan rows) × (64 * (wanted_from limits plan rows / 64) < limits.rows)
    × (wanted_from limits plan rows / 64 ≤ limits.wide_from / 64)
wanted_there limits plan rows =
    let narrow = limits.widths.whole_narrow in
    let pages = limits.widths.whole_pages in
    let ordered = limits.widths.ordered in
    let some = limits.widths.some_wide in
    elim (wanted_first limits plan rows) [
      | inl e ↦ (omega (arith, e), omega (arith, e, some), omega (arith, e))
      | inr (inl e) ↦ (omega (arith, e, narrow), omega (arith, e, ordered, some), omega (arith, e, ordered))
      | inr (inr e) ↦ (omega (arith, e, pages), omega (arith, e, some), omega (arith, e))
    ]

-- ---- what is lacking
some_lack : (x y z : Bool) → (not x && (not y && not z)) ≡ false → (x ≡ true) ⊎ (y ≡ true) ⊎ (z ≡ true)
some_lack true y z e = inl refl
some_lack false true z e = inr (inl refl)
some_lack false false true e = inr (inr refl)
some_lack false false false e = cc

none_lack : (x y z : Bool) → (not x && (not y && not z)) ≡ true → (x ≡ false) × (y ≡ false) × (z ≡ false)
none_lack false false false e = (refl, refl, refl)
none_lack x y z e = cc

either : (x y : Bool) → (x || y) ≡ true → (x ≡ true) ⊎ (y ≡ true)
either true y e = inl refl
either false true e = inr refl
either false false e = cc

neither : (x y : Bool) → (x || y) ≡ false → (x ≡ false) × (y ≡ false)
neither true y e = cc
neither false true e = cc
neither false false e = (refl, refl)

module _ (limits : Limits) (plan : Plan) (rows : List ℕ) where
  -- too few, or the last one has no room, or the one before it
  lacks : has_rows limits plan rows ≡ false → (length rows < rows_needed plan) ⊎ (last_of rows < upper_from limits plan) ⊎ (second_of rows < lower_from limits plan)
  lacks e = elim (some_lack _ _ _ e) [
    | inl x ↦ inl (ltb-true (length rows) (rows_needed plan) x)
    | inr (inl y) ↦ inr (inl (ltb-true (last_of rows) (upper_from limits plan) y))
    | inr (inr z) ↦ inr (inr (ltb-true (second_of rows) (lower_from limits plan) z))
  ]

  pub has_all : has_rows limits plan rows ≡ true → (rows_needed plan ≤ length rows) × (upper_from limits plan ≤ last_of rows) × (lower_from limits plan ≤ second_of rows)
  has_all e =
      let all = none_lack (ltb (length rows) (rows_needed plan)) (ltb (last_of rows) (upper_from limits plan)) (ltb (second_of rows) (lower_from limits plan)) e in (
        ltb-false (length rows) (rows_needed plan) all.0,
        ltb-false (last_of rows) (upper_from limits plan) all.1,
        ltb-false (second_of rows) (lower_from limits plan) all.2,
      )

  lower_lacks : lacks_lower limits plan rows ≡ true → (suc (length rows) < rows_needed plan) ⊎ (last_of rows < lower_from limits plan)
  lower_lacks e = elim (either _ _ e) [ inl x ↦ inl (ltb-true (suc (length rows)) (rows_needed plan) x) | inr y ↦ inr (ltb-true (last_of rows) (lower_from limits plan) y) ]

  lower_there : lacks_lower limits plan rows ≡ false → (rows_needed plan ≤ suc (length rows)) × (lower_from limits plan ≤ last_of rows)
  lower_there e =
      let both = neither (ltb (suc (length rows)) (rows_needed plan)) (ltb (last_of rows) (lower_from limits plan)) e in
      (ltb-false (suc (length rows)) (rows_needed plan) both.0, ltb-false (last_of rows) (lower_from limits plan) both.1)

  wanted_lower : (number : ℕ) → lacks_lower limits plan rows ≡ true → wanted_from limits plan rows ≤ number → lower_from limits plan ≤ number
  wanted_lower number e at = rw e at at

  wanted_upper : (number : ℕ) → lacks_lower limits plan rows ≡ false → wanted_from limits plan rows ≤ number → upper_from limits plan ≤ number
  wanted_upper number e at = rw e at at

  pub missing_few : rows_missing limits plan rows ≤ 2
  missing_few = go (has_rows limits plan rows) (lacks_lower limits plan rows)
    where
      go : (all lower : Bool) → (if all then 0 else if lower then 2 else 1) ≤ 2
      go true lower = omega arith
      go false true = omega arith
      go false false = omega arith

  pub missing_some : has_rows limits plan rows ≡ false → 1 ≤ rows_missing limits plan rows
  missing_some e = rw e (go (lacks_lower limits plan rows))
    where
      go : (lower : Bool) → 1 ≤ (if lower then 2 else 1)
      go true = omega arith
      go false = omega arith

-- ---- a row that is taken
module _ (limits : Limits) (plan : Plan) (number : ℕ) where
  -- There is room for one more spare, as wide as its place asks.
  pub record Adds (rows : List ℕ) : Type 0 where
    pub few : length rows ≤ 3
    pub alike : 2 ≤ length rows → 0 < limits.wide_from
    pub least : least_at limits (length rows) ≤ number

  lower_few : lower_from limits plan ≤ limits.narrow_rows
  lower_few = elim (needs limits plan).lower [ inl e ↦ omega (arith, e) | inr e ↦ omega (arith, e) ]

  -- a row above the narrow ones is taken for a wide one alone
  is_wide : (row : ℕ) → limits.narrow_rows ≤ row → row < upper_from limits plan → upper_from limits plan ≡ limits.wide_from
  is_wide row page lacks = elim (needs limits plan).upper [
    | inl e ↦ absurd (omega (arith, e, lacks))
    | inr (inl e) ↦ absurd (omega (arith, e, page, lacks))
    | inr (inr e) ↦ e
  ]

  upper_wide : upper_from limits plan ≤ limits.wide_from
  upper_wide = let ordered = limits.widths.ordered in elim (needs limits plan).upper [ inl e ↦ omega (arith, e) | inr (inl e) ↦ omega (arith, e, ordered) | inr (inr e) ↦ omega (arith, e) ]

  pub adds : (rows : List ℕ) → AreStacked limits 0 rows → length rows ≤ 4 → (2 < length rows → 0 < limits.wide_from) → has_rows limits plan rows ≡ false
      → wanted_from limits plan rows ≤ number → Adds rows
  adds [] stacked few alike lack at = record { few = omega arith; alike = λ two. absurd (omega (arith, two)); least = omega arith }
  adds (a ∷ []) stacked few alike lack at = record { few = omega arith; alike = λ two. absurd (omega (arith, two)); least = by (lacks_lower limits plan (a ∷ [])) refl }
    where
      by : (lower : Bool) → lacks_lower limits plan (a ∷ []) ≡ lower → limits.narrow_rows ≤ number
      by true e =
          let enough = wanted_lower limits plan (a ∷ []) number e at in
          let two = (needs limits plan).few in
          elim (lower_lacks limits plan (a ∷ []) e) [
            | inl x ↦ absurd (omega (arith, x, two))
            | inr y ↦ elim (needs limits plan).lower [ inl is ↦ absurd (omega (arith, is, y)) | inr is ↦ omega (arith, is, enough) ]
          ]
      by false e =
          let enough = wanted_upper limits plan (a ∷ []) number e at in
          let there = (lower_there limits plan (a ∷ []) e).1 in
          let ordered = limits.widths.ordered in
          elim (lacks limits plan (a ∷ []) lack) [
            | inl x ↦ (let page = (needs limits plan).two (omega (arith, x)) in omega (arith, page, enough))
            | inr (inl y) ↦ elim (needs limits plan).upper [ inl is ↦ absurd (omega (arith, is, y)) | inr (inl is) ↦ omega (arith, is, enough) | inr (inr is) ↦ omega (arith, is, enough, ordered) ]
            | inr (inr z) ↦ absurd (omega (arith, z, there))
          ]
  adds (a ∷ b ∷ []) stacked few alike lack at = let both = by (lacks_lower limits plan (a ∷ b ∷ [])) refl in record { few = omega arith; alike = λ two. both.0; least = both.1 }
    where
      page : limits.narrow_rows ≤ b
      page = stacked.1.0

      by : (lower : Bool) → lacks_lower limits plan (a ∷ b ∷ []) ≡ lower → (0 < limits.wide_from) × (limits.narrow_rows ≤ number)
      by true e =
          let two = (needs limits plan).few in
          let low = lower_few in
          let wide = page in
          elim (lower_lacks limits plan (a ∷ b ∷ []) e) [ inl x ↦ absurd (omega (arith, x, two)) | inr y ↦ absurd (omega (arith, y, low, wide)) ]
      by false e =
          let enough = wanted_upper limits plan (a ∷ b ∷ []) number e at in
          let two = (needs limits plan).few in
          let ordered = limits.widths.ordered in
          elim (lacks limits plan (a ∷ b ∷ []) lack) [
            | inl x ↦ absurd (omega (arith, x, two))
            | inr (inl y) ↦ (let is = is_wide b page y in (omega (arith, is, y), omega (arith, is, enough, ordered)))
            | inr (inr z) ↦ (let beside = (needs limits plan).beside (omega (arith, z)) in let upper = beside.1 in let low = lower_few in
                (omega (arith, z, low, ordered), omega (arith, upper, enough)))
          ]
  adds (a ∷ b ∷ c ∷ []) stacked few alike lack at = record { few = omega arith; alike = λ two. alike (omega arith); least = by (lacks_lower limits plan (a ∷ b ∷ c ∷ [])) refl }
    where
      second : limits.narrow_rows ≤ b
      second = stacked.1.0

      third : limits.narrow_rows ≤ c
      third = stacked.1.1.0

      by : (lower : Bool) → lacks_lower limits plan (a ∷ b ∷ c ∷ []) ≡ lower → limits.wide_from ≤ number
      by true e =
          let two = (needs limits plan).few in
          let low = lower_few in
          let wide = third in
          elim (lower_lacks limits plan (a ∷ b ∷ c ∷ []) e) [ inl x ↦ absurd (omega (arith, x, two)) | inr y ↦ absurd (omega (arith, y, low, wide)) ]
      by false e =
          let enough = wanted_upper limits plan (a ∷ b ∷ c ∷ []) number e at in
          let two = (needs limits plan).few in
          let low = lower_few in
          let wide = second in
          elim (lacks limits plan (a ∷ b ∷ c ∷ []) lack) [
            | inl x ↦ absurd (omega (arith, x, two))
            | inr (inl y) ↦ (let is = is_wide c third y in omega (arith, is, enough))
            | inr (inr z) ↦ absurd (omega (arith, z, low, wide))
          ]
  adds (a ∷ b ∷ c ∷ d ∷ []) stacked few alike lack at = absurd (by (lacks_lower limits plan (a ∷ b ∷ c ∷ d ∷ [])) refl)
    where
      third : limits.narrow_rows ≤ c
      third = stacked.1.1.0

      fourth : limits.wide_from ≤ d
      fourth = stacked.1.1.1.0

      by : (lower : Bool) → lacks_lower limits plan (a ∷ b ∷ c ∷ d ∷ []) ≡ lower → ⊥
      by true e =
          let two = (needs limits plan).few in
          let low = lower_few in
          let wide = fourth in
          let ordered = limits.widths.ordered in
          elim (lower_lacks limits plan (a ∷ b ∷ c ∷ d ∷ []) e) [ inl x ↦ omega (arith, x, two) | inr y ↦ omega (arith, y, low, wide, ordered) ]
      by false e =
          let two = (needs limits plan).few in
          let low = lower_few in
          let upper = upper_wide in
          let page = third in
          let wide = fourth in
          elim (lacks limits plan (a ∷ b ∷ c ∷ d ∷ []) lack) [
            | inl x ↦ omega (arith, x, two)
            | inr (inl y) ↦ omega (arith, y, upper, wide)
            | inr (inr z) ↦ omega (arith, z, low, page)
          ]
  adds (a ∷ b ∷ c ∷ d ∷ e ∷ rows) stacked few alike lack at = absurd (omega (arith, few))

  not_below : (x y : ℕ) → y ≤ x → ltb x y ≡ false
  not_below x y le = go (ltb x y) refl
    where
      go : (b : Bool) → ltb x y ≡ b → b ≡ false
      go true e = absurd (let lt = ltb-true x y e in omega (arith, lt, le))
      go false e = refl

  is_below : (x y : ℕ) → x < y → ltb x y ≡ true
  is_below x y lt = go (ltb x y) refl
    where
      go : (b : Bool) → ltb x y ≡ b → b ≡ true
      go true e = refl
      go false e = absurd (let le = ltb-false x y e in omega (arith, lt, le))

  lacks_third : (x y : Bool) → (not x && (not y && not true)) ≡ false
  lacks_third true y = refl
  lacks_third false true = refl
  lacks_third false false = refl

  -- one row less is missing once it is taken
  pub fewer_rows : (rows : List ℕ) → has_rows limits plan rows ≡ false → wanted_from limits plan rows ≤ number
      → suc (rows_missing limits plan (rows ++ number ∷ [])) ≡ rows_missing limits plan rows
  fewer_rows rows lack at = by (lacks_lower limits plan rows) refl
    where
      now : List ℕ
      now = rows ++ number ∷ []

      long : length now ≡ length rows + 1
      long = length-append rows (number ∷ [])

      one_more : has_rows limits plan now ≡ false → lacks_lower limits plan now ≡ false → rows_missing limits plan now ≡ 1
      one_more h l = rw (h, l) refl

      still_lacks : lacks_lower limits plan rows ≡ true → has_rows limits plan now ≡ false
      still_lacks e = elim (lower_lacks limits plan rows e) [
        | inl x ↦ (let more = long in let few : ltb (length now) (rows_needed plan) ≡ true = is_below (length now) (rows_needed plan) (omega (arith, x, more)) in rw few refl)
        | inr y ↦ at_last rows refl y
      ]
        where
          at_last : (all : List ℕ) → all ≡ rows → last_of rows < lower_from limits plan → has_rows limits plan now ≡ false
          at_last [] is y =
              let two = ((needs limits plan).beside (omega (arith, y))).0 in
              let more = long in
              let none : length rows ≡ 0 = ap length (sym is) in
              let few : ltb (length now) (rows_needed plan) ≡ true = is_below (length now) (rows_needed plan) (omega (arith, two, more, none)) in
              rw few refl
          at_last (row ∷ others) is y =
              let some : length rows ≡ suc (length others) = ap length (sym is) in
              let same = second_push rows number (omega (arith, some)) in
              let third : ltb (second_of now) (lower_from limits plan) ≡ true = is_below (second_of now) (lower_from limits plan) (omega (arith, same, y)) in
              rw third (lacks_third (ltb (length now) (rows_needed plan)) (ltb (last_of now) (upper_from limits plan)))

      lower_now : lower_from limits plan ≤ number → lacks_lower limits plan now ≡ false
      lower_now enough =
          let two = (needs limits plan).few in
          let more = long in
          let last = last_push rows number in
          let first : ltb (suc (length now)) (rows_needed plan) ≡ false = not_below (suc (length now)) (rows_needed plan) (omega (arith, two, more)) in
          let other : ltb (last_of now) (lower_from limits plan) ≡ false = not_below (last_of now) (lower_from limits plan) (omega (arith, last, enough)) in
          rw (first, other) refl

      second_there : (all : List ℕ) → all ≡ rows → rows_needed plan ≤ suc (length rows) → lower_from limits plan ≤ last_of rows → lower_from limits plan ≤ second_of now
      second_there [] is few there = let none : length rows ≡ 0 = ap length (sym is) in let zero' = (needs limits plan).one (omega (arith, few, none)) in omega (arith, zero')
      second_there (row ∷ others) is few there =
          let some : length rows ≡ suc (length others) = ap length (sym is) in
          let same = second_push rows number (omega (arith, some)) in
          omega (arith, same, there)

      all_now : lacks_lower limits plan rows ≡ false → has_rows limits plan now ≡ true
      all_now e =
          let there = lower_there limits plan rows e in
          let few = there.0 in
          let more = long in
          let last = last_push rows number in
          let enough = wanted_upper limits plan rows number e at in
          let one : ltb (length now) (rows_needed plan) ≡ false = not_below (length now) (rows_needed plan) (omega (arith, few, more)) in
          let two : ltb (last_of now) (upper_from limits plan) ≡ false = not_below (last_of now) (upper_from limits plan) (omega (arith, last, enough)) in
          let three : ltb (second_of now) (lower_from limits plan) ≡ false = not_below (second_of now) (lower_from limits plan) (second_there rows refl few there.1) in
          rw (one, two, three) refl

      by : (lower : Bool) → lacks_lower limits plan rows ≡ lower → suc (rows_missing limits plan now) ≡ rows_missing limits plan rows
      by true e = let one = one_more (still_lacks e) (lower_now (wanted_lower limits plan rows number e at)) in rw (lack, e, one) refl
      by false e = let all = all_now e in rw (lack, e, all) refl

-- ---- the stack
pub stacked_push : (limits : Limits) (place : ℕ) (rows : List ℕ) (number : ℕ) → AreStacked limits place rows → least_at limits (place + length rows) ≤ number
    → AreStacked limits place (rows ++ number ∷ [])
stacked_push limits place [] number h least = let same : place + 0 ≡ place = omega arith in ((rw same at least), tt)
stacked_push limits place (row ∷ rows) number h least =
    let same : place + suc (length rows) ≡ suc place + length rows = omega arith in
    (h.0, stacked_push limits (suc place) rows number h.1 (rw same at least))

pub stacked_take : (limits : Limits) (m place : ℕ) (rows : List ℕ) → AreStacked limits place rows → AreStacked limits place (take m rows)
stacked_take limits zero place rows h = tt
stacked_take limits (suc m) place [] h = tt
stacked_take limits (suc m) place (row ∷ rows) h = (h.0, stacked_take limits m (suc place) rows h.1)
