-- Rows of pages by hand that are apart.
use Rattle.std.proofs.Common.{◌≡◌, ◌<◌, ◌≤◌, ◌+◌, ◌-◌, ℕ, Bool, true, false, length, Option, None, Some, refl, ap, ◌∙◌, arith}
use Rattle.std.specs.Prelude.{nat_le, slice_get, if◌then◌else◌}
use Rattle.std.proofs.lemmas.Bool.{le-leb, leb-true, lt-leb}
use Rattle.std.proofs.lemmas.Option.{slice_get_past, slice_get_within}
use Rattle.deltas.specs.declared.record.Record.{Record}
use Rattle.structure_changes.specs.Versions.{Version}
use Rattle.layer_tests.specs.Held.{ShareNoRow, ThreePages, HasRowsOf, or_else, page_record}

pub le_true : (a b : ℕ) → a ≤ b → nat_le a b ≡ true
le_true a b le = le-leb a b le

pub le_false : (a b : ℕ) → b < a → nat_le a b ≡ false
le_false a b lt = lt-leb a b lt

-- a row above the page's head has none of its records
pub none_above : (page : Version) (row : ℕ) → page.head < row → page_record page row ≡ None
none_above page row above = ap (λ (b : Bool). if b then slice_get page.chain (page.head - row) else None) (le_false row page.head above)

pub within_head : (page : Version) (row : ℕ) → row ≤ page.head → page_record page row ≡ slice_get page.chain (page.head - row)
within_head page row within = ap (λ (b : Bool). if b then slice_get page.chain (page.head - row) else None) (le_true row page.head within)

-- nor has one below its base
none_below : (page : Version) (row : ℕ) → row ≤ page.head → row + length page.chain ≤ page.head → page_record page row ≡ None
none_below page row within below = within_head page row within ∙ slice_get_past page.chain (page.head - row) (omega (arith, within, below))

record InRange (page : Version) (row : ℕ) : Type 0 where
  within : row ≤ page.head
  over : page.head < row + length page.chain

in_range : (page : Version) (row : ℕ) (content : Record) → page_record page row ≡ Some content → InRange page row
in_range page row content is = by (nat_le row page.head) refl is
  where
    by : (b : Bool) → nat_le row page.head ≡ b → (if b then slice_get page.chain (page.head - row) else None) ≡ Some content → InRange page row
    by true le found =
        let within : row ≤ page.head = leb-true row page.head le in
        let some = slice_get_within page.chain (page.head - row) content found in
        record { within = within; over = omega (arith, within, some) }
    by false le found = cc

pub apart_before : (one other : Version) → one.head + length other.chain ≤ other.head → ShareNoRow one other
apart_before one other before row content is =
    let in_other = in_range other row content is in
    none_above one row (let over = in_other.over in omega (arith, before, over))

pub apart_after : (one other : Version) → other.head + length one.chain ≤ one.head → ShareNoRow one other
apart_after one other after row content is =
    let within = (in_range other row content is).within in
    none_below one row (omega (arith, after, within)) (omega (arith, after, within))

-- the first page's rows stand, and those of each one that is apart from those before it
pub first_stands : (pages : ThreePages) → HasRowsOf pages pages.one
first_stands pages row content is = ap (λ (o : Option Record). or_else o (or_else (page_record pages.other row) (page_record pages.third row))) is

pub second_stands : (pages : ThreePages) → ShareNoRow pages.one pages.other → HasRowsOf pages pages.other
second_stands pages apart row content is =
    ap (λ (o : Option Record). or_else o (or_else (page_record pages.other row) (page_record pages.third row))) (apart row content is)
    ∙ ap (λ (o : Option Record). or_else o (page_record pages.third row)) is

pub third_stands : (pages : ThreePages) → ShareNoRow pages.one pages.third → ShareNoRow pages.other pages.third → HasRowsOf pages pages.third
third_stands pages apart aside row content is =
    ap (λ (o : Option Record). or_else o (or_else (page_record pages.other row) (page_record pages.third row))) (apart row content is)
    ∙ ap (λ (o : Option Record). or_else o (page_record pages.third row)) (aside row content is)
    ∙ is
