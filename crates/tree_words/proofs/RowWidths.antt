-- Rows stand one behind the other, whatever their widths are.
use Rattle.std.proofs.Common.{◌≡◌, ◌<◌, ◌≤◌, ◌+◌, ◌-◌, ◌*◌, ◌∙◌, ℕ, zero, suc, Bool, true, false, refl, sym, ap, arith}
use Rattle.std.specs.Prelude.{ltb, if◌then◌else◌}
use Rattle.std.proofs.Math.Nat.{mul-suc}
use Rattle.std.proofs.lemmas.Bool.{ltb-true, ltb-false}
use Rattle.tree_limits.specs.declared.limits.Limits.{Limits}
use Rattle.record_slots.specs.Layout.{row_size}
use Rattle.tree_words.specs.Layout.{rows_width, width_of}

pub not_below : (x y : ℕ) → y ≤ x → ltb x y ≡ false
not_below x y le = go (ltb x y) refl
  where
    go : (b : Bool) → ltb x y ≡ b → b ≡ false
    go true e = absurd (let lt = ltb-true x y e in omega (arith, lt, le))
    go false e = refl

is_below : (x y : ℕ) → x < y → ltb x y ≡ true
is_below x y lt = go (ltb x y) refl
  where
    go : (b : Bool) → ltb x y ≡ b → b ≡ true
    go true e = refl
    go false e = absurd (let le = ltb-false x y e in omega (arith, lt, le))

one_more : (n m : ℕ) → n * (m + 1) ≡ n * m + n
one_more n m = let e : m + 1 ≡ suc m = omega arith in rw e (let s = mul-suc n m in omega (arith, s))

module _ (limits : Limits) where
  ordered : limits.narrow_rows ≤ limits.wide_from
  ordered = limits.widths.ordered

  -- where the rows are narrow, for pages, or wide
  pub narrow_is : (row : ℕ) → row < limits.narrow_rows → rows_width limits row ≡ limits.narrow_words * row
  unfolding rows_width
  narrow_is row low = rw (is_below row limits.narrow_rows low) refl

  pub page_is : (row : ℕ) → limits.narrow_rows ≤ row → row < limits.wide_from
      → rows_width limits row ≡ limits.narrow_words * limits.narrow_rows + limits.page_words * (row - limits.narrow_rows)
  unfolding rows_width
  page_is row low high = rw (not_below row limits.narrow_rows low, is_below row limits.wide_from high) refl

  pub wide_is : (row : ℕ) → limits.wide_from ≤ row
      → rows_width limits row
      ≡ limits.narrow_words * limits.narrow_rows + limits.page_words * (limits.wide_from - limits.narrow_rows) + row_size * (row - limits.wide_from)
  unfolding rows_width
  wide_is row low = let o = ordered in rw (not_below row limits.narrow_rows (omega (arith, low, o)), not_below row limits.wide_from low) refl

  pub all_wide : (row : ℕ) → limits.wide_from ≡ 0 → rows_width limits row ≡ row_size * row
  all_wide row none =
      let is = wide_is row (omega (arith, none)) in
      let o = ordered in
      let no_narrow : limits.narrow_rows ≡ 0 = omega (arith, o, none) in
      let e : limits.wide_from - limits.narrow_rows ≡ 0 = omega (arith, none) in
      let all : row - limits.wide_from ≡ row = omega (arith, none) in
      is ∙ rw (e, all, no_narrow) (omega arith)

  -- the rows below the first one for pages, and below the first wide one
  at_pages : rows_width limits limits.narrow_rows ≡ limits.narrow_words * limits.narrow_rows
  at_pages = go (ltb limits.narrow_rows limits.wide_from) refl
    where
      go : (b : Bool) → ltb limits.narrow_rows limits.wide_from ≡ b → rows_width limits limits.narrow_rows ≡ limits.narrow_words * limits.narrow_rows
      go true e =
          let is = page_is limits.narrow_rows (omega arith) (ltb-true limits.narrow_rows limits.wide_from e) in
          let none : limits.narrow_rows - limits.narrow_rows ≡ 0 = omega arith in
          is ∙ rw none (omega arith)
      go false e =
          let le = ltb-false limits.narrow_rows limits.wide_from e in
          let is = wide_is limits.narrow_rows le in
          let o = ordered in
          let none : limits.wide_from - limits.narrow_rows ≡ 0 = omega (arith, le) in
          let zero' : limits.narrow_rows - limits.wide_from ≡ 0 = omega (arith, o) in
          is ∙ rw (none, zero') (omega arith)

  at_wide : rows_width limits limits.wide_from ≡ limits.narrow_words * limits.narrow_rows + limits.page_words * (limits.wide_from - limits.narrow_rows)
  at_wide =
      let is = wide_is limits.wide_from (omega arith) in
      let none : limits.wide_from - limits.wide_from ≡ 0 = omega arith in
      is ∙ rw none (omega arith)

  -- how many words the rows have that are for pages, or are wide, and lie below a row
  pub pages_on : (row : ℕ) → limits.narrow_rows ≤ row → row < limits.wide_from
      → rows_width limits row ≡ rows_width limits limits.narrow_rows + limits.page_words * (row - limits.narrow_rows)
  pages_on row low high = let is = page_is row low high in let at = at_pages in omega (arith, is, at)

  pub wide_on : (row : ℕ) → limits.wide_from ≤ row → rows_width limits row ≡ rows_width limits limits.wide_from + row_size * (row - limits.wide_from)
  wide_on row low = let is = wide_is row low in let at = at_wide in omega (arith, is, at)

  -- one row more
  pub next_row : (row : ℕ) → rows_width limits (row + 1) ≡ rows_width limits row + width_of limits row
  next_row row = go (ltb row limits.narrow_rows) refl (ltb row limits.wide_from) refl
    where
      low_end : (b : Bool) → ltb (row + 1) limits.narrow_rows ≡ b → row < limits.narrow_rows → rows_width limits (row + 1) ≡ limits.narrow_words * (row + 1)
      low_end true e low = narrow_is (row + 1) (ltb-true (row + 1) limits.narrow_rows e)
      low_end false e low =
          let high = ltb-false (row + 1) limits.narrow_rows e in
          let same : row + 1 ≡ limits.narrow_rows = omega (arith, low, high) in
          rw same at_pages

      page_end : (b : Bool) → ltb (row + 1) limits.wide_from ≡ b → limits.narrow_rows ≤ row → row < limits.wide_from
          → rows_width limits (row + 1) ≡ limits.narrow_words * limits.narrow_rows + limits.page_words * (row + 1 - limits.narrow_rows)
      page_end true e above low = page_is (row + 1) (omega (arith, above)) (ltb-true (row + 1) limits.wide_from e)
      page_end false e above low =
          let high = ltb-false (row + 1) limits.wide_from e in
          let same : row + 1 ≡ limits.wide_from = omega (arith, low, high) in
          rw same at_wide

      go : (narrow : Bool) → ltb row limits.narrow_rows ≡ narrow → (page : Bool) → ltb row limits.wide_from ≡ page
          → rows_width limits (row + 1) ≡ rows_width limits row + (if narrow then limits.narrow_words else if page then limits.page_words else row_size)
      go true e page f =
          let low = ltb-true row limits.narrow_rows e in
          low_end (ltb (row + 1) limits.narrow_rows) refl low ∙ one_more limits.narrow_words row ∙ ap (λ n. n + limits.narrow_words) (sym (narrow_is row low))
      go false e true f =
          let above = ltb-false row limits.narrow_rows e in
          let low = ltb-true row limits.wide_from f in
          let step : row + 1 - limits.narrow_rows ≡ (row - limits.narrow_rows) + 1 = omega (arith, above) in
          let more = one_more limits.page_words (row - limits.narrow_rows) in
          let here = page_is row above low in
          let there = page_end (ltb (row + 1) limits.wide_from) refl above low in
          there ∙ rw step (omega (arith, more, here))
      go false e false f =
          let above = ltb-false row limits.wide_from f in
          let here = wide_is row above in
          let there = wide_is (row + 1) (omega (arith, above)) in
          let step : row + 1 - limits.wide_from ≡ (row - limits.wide_from) + 1 = omega (arith, above) in
          there ∙ rw step (omega (arith, here))

  pub few_words : (row : ℕ) → width_of limits row ≤ row_size
  few_words row = let p = limits.widths.fitting in let n = limits.widths.widening in go (ltb row limits.narrow_rows) (ltb row limits.wide_from)
    where
      go : (narrow page : Bool) → (if narrow then limits.narrow_words else if page then limits.page_words else row_size) ≤ row_size
      go true page = let p = limits.widths.fitting in let n = limits.widths.widening in omega (arith, p, n)
      go false true = let p = limits.widths.fitting in omega (arith, p)
      go false false = omega arith

  pub some_words : (row : ℕ) → 8 ≤ width_of limits row
  some_words row = go (ltb row limits.narrow_rows) (ltb row limits.wide_from)
    where
      go : (narrow page : Bool) → 8 ≤ (if narrow then limits.narrow_words else if page then limits.page_words else row_size)
      go true page = limits.widths.narrow_room
      go false true = let p = limits.widths.page_room in omega (arith, p)
      go false false = omega arith

  -- a row ends before each later one begins
  pub rows_grow : (row more : ℕ) → rows_width limits row + width_of limits row ≤ rows_width limits (row + 1 + more)
  rows_grow row zero = let next = next_row row in let same : row + 1 + 0 ≡ row + 1 = omega arith in rw same (omega (arith, next))
  rows_grow row (suc more) =
      let before = rows_grow row more in
      let next = next_row (row + 1 + more) in
      let same : row + 1 + suc more ≡ row + 1 + more + 1 = omega arith in
      rw same (omega (arith, before, next))

  pub ends_before : (row other : ℕ) → row < other → rows_width limits row + width_of limits row ≤ rows_width limits other
  ends_before row other lt = let grow = rows_grow row (other - (row + 1)) in let same : row + 1 + (other - (row + 1)) ≡ other = omega (arith, lt) in rw same at grow

  -- behind each row there are as many words as a wide one has, before the slots
  pub row_within : (row : ℕ) → row < limits.rows → rows_width limits row + row_size ≤ rows_width limits limits.rows
  row_within row lt = go (ltb row limits.wide_from) refl
    where
      some_wide : limits.wide_from < limits.rows
      some_wide = limits.widths.some_wide

      wide_words : width_of limits (limits.rows - 1) ≡ row_size
      wide_words =
          let some = some_wide in
          let o = ordered in
          rw (not_below (limits.rows - 1) limits.narrow_rows (omega (arith, some, o)), not_below (limits.rows - 1) limits.wide_from (omega (arith, some))) refl

      last : rows_width limits (limits.rows - 1) + row_size ≤ rows_width limits limits.rows
      last = let some = some_wide in let ends = ends_before (limits.rows - 1) limits.rows (omega (arith, some)) in let is = wide_words in omega (arith, ends, is)

      own : (page : Bool) → ltb row limits.wide_from ≡ page → row ≡ limits.rows - 1 → rows_width limits row + row_size ≤ rows_width limits limits.rows
      own page e is = rw is last

      go : (page : Bool) → ltb row limits.wide_from ≡ page → rows_width limits row + row_size ≤ rows_width limits limits.rows
      go true e =
          let low = ltb-true row limits.wide_from e in
          let some = some_wide in
          let before = ends_before row (limits.rows - 1) (omega (arith, low, some)) in
          let end = last in
          omega (arith, before, end)
      go false e =
          let above = ltb-false row limits.wide_from e in
          let o = ordered in
          let is : width_of limits row ≡ row_size = rw (not_below row limits.narrow_rows (omega (arith, above, o)), not_below row limits.wide_from above) refl in
          let ends = ends_before row limits.rows lt in
          omega (arith, ends, is)

  -- no word is one of two rows
  pub rows_apart : (row other i j : ℕ) → (row ≡ other → ⊥) → i < width_of limits row → j < width_of limits other → rows_width limits row + i ≡ rows_width limits other + j → ⊥
  rows_apart row other i j ne a b e = go (ltb row other) refl
    where
      go : (less : Bool) → ltb row other ≡ less → ⊥
      go true is = let before = ends_before row other (ltb-true row other is) in omega (arith, before, a, e)
      go false is = other_way (ltb other row) refl
        where
          other_way : (more : Bool) → ltb other row ≡ more → ⊥
          other_way true f = let before = ends_before other row (ltb-true other row f) in omega (arith, before, b, e)
          other_way false f = ne (let one = ltb-false row other is in let two = ltb-false other row f in omega (arith, one, two))

-- where all rows have one width
pub one_width : (limits : Limits) → limits.is_large ≡ false → (row : ℕ) → (rows_width limits row ≡ row_size * row) × (width_of limits row ≡ row_size)
one_width limits small row =
    let n = (limits.alike small).narrow in
    let p = (limits.alike small).pages in
    let is = wide_is limits row (omega (arith, p)) in
    let none : limits.wide_from - limits.narrow_rows ≡ 0 = omega (arith, n, p) in
    let all : row - limits.wide_from ≡ row = omega (arith, p) in (
      is ∙ rw (none, n, all) (omega arith),
      rw (not_below row limits.narrow_rows (omega (arith, n)), not_below row limits.wide_from (omega (arith, p))) refl,
    )

-- ---- the rows below a row have no more words than wide ones have
times_none : (a b : ℕ) → b ≡ 0 → a * b ≡ 0
times_none a b e = rw e (omega arith)

module _ (limits : Limits) where
  first_at : rows_width limits 0 ≤ 0
  first_at = go (ltb 0 limits.narrow_rows) refl (ltb 0 limits.wide_from) refl
    where
      go : (narrow : Bool) → ltb 0 limits.narrow_rows ≡ narrow → (page : Bool) → ltb 0 limits.wide_from ≡ page → rows_width limits 0 ≤ 0
      go true e page f = let is = narrow_is limits 0 (ltb-true 0 limits.narrow_rows e) in omega (arith, is)
      go false e true f =
          let none = ltb-false 0 limits.narrow_rows e in
          let is = page_is limits 0 none (ltb-true 0 limits.wide_from f) in
          let narrow = times_none limits.narrow_words limits.narrow_rows (omega (arith, none)) in
          let pages = times_none limits.page_words (0 - limits.narrow_rows) (omega arith) in
          omega (arith, is, narrow, pages)
      go false e false f =
          let none = ltb-false 0 limits.narrow_rows e in
          let low = ltb-false 0 limits.wide_from f in
          let is = wide_is limits 0 low in
          let narrow = times_none limits.narrow_words limits.narrow_rows (omega (arith, none)) in
          let pages = times_none limits.page_words (limits.wide_from - limits.narrow_rows) (omega (arith, low)) in
          omega (arith, is, narrow, pages)

  pub rows_few : (row : ℕ) → rows_width limits row ≤ row_size * row
  rows_few zero = let none = first_at in omega (arith, none)
  rows_few (suc row) =
      let before = rows_few row in
      let next = next_row limits row in
      let few = few_words limits row in
      let same : suc row ≡ row + 1 = omega arith in
      rw same (omega (arith, before, next, few))

  pub row_few : (row : ℕ) → row < limits.rows → rows_width limits row ≤ 34359738368
  row_few row below = let few = rows_few row in let most = limits.allowed.few_rows in omega (arith, few, most, below)
