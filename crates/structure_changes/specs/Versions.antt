-- A page as it was read.
use Rattle.std.specs.Prelude.{ℕ, List}
use Rattle.deltas.specs.declared.record.Record.{Record}
use Rattle.deltas.specs.Spellable.{IsPid, IsRow}

-- the row that the page's slot had, and the whole chain from there on
pub record Version : Type 0 where
  pub pid : ℕ
  pub head : ℕ
  pub chain : List Record
  pub is_pid : IsPid pid
  pub is_row : IsRow head
