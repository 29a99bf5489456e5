-- What the words of a record's bounds say where there is none.
use Rattle.std.proofs.Common.{◌≡◌, ℕ, List, get_or, take, drop, refl, arith}
use Rattle.std.specs.Prelude.{Option, Some, None, IfSome, unwrap_or}
use Rattle.row_search.proofs.Words.{IsShort, right_after, IsPid, IsSpellable, Record, field_size, no_bound, second_at, row_of, bound_words}
use Rattle.deltas.specs.declared.record.Record.TheVariants.{Base, Split, Merge}
use Rattle.row_search.proofs.RowTexts.{text_at}

pub unbounded : (words : List ℕ) (second : Option (List ℕ)) → IfSome second IsShort → bound_words second ≡ take field_size (drop second_at words) → get_or words second_at 0 ≡ no_bound → None ≡ second
unbounded words None short e is = refl
unbounded words (Some text) short e is = let counts = (text_at text words second_at short e).counts in let few = short.short in absurd (omega arith)

none_right : (right : Option ℕ) → IfSome right IsPid → unwrap_or right 0 ≡ 0 → None ≡ right
none_right None is h = refl
none_right (Some page) is h = let some = is.0 in absurd (omega arith)

-- a record that says what the page's right is, and names none
pub right_none : (content : Record) → IsSpellable content → ((right : Option ℕ) → right_after content right ≡ right_after content None) → (row_of content).page ≡ 0 → None ≡ right_after content None
right_none (Base page) is f h = none_right page.right is.right h
right_none (Split split) is f h = let some = is.names.0 in absurd (omega arith)
right_none (Merge merge) is f h = none_right merge.right is.3.right h
right_none content is f h = refl
