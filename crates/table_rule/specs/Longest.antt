-- The longest run is one that a seat has seen.
use Rattle.std.specs.Prelude.{◌≡◌, ◌≢◌, ℕ, List, Some, slice_get}
use mathlib.Core.Option.{some}
use lib.ListN.{get_elem?}
use Rattle.atomic_table.specs.Table.{State}
use Rattle.tree_limits.specs.declared.limits.Limits.{Limits}
use Rattle.traces.specs.declared.trace.Entry.{Entry}
use Rattle.table_rule.specs.declared.view.Reach.TheVariants.{Noted}
use Rattle.table_rule.specs.declared.view.Part.{Part}
use Rattle.table_rule.specs.Running.{Running}

-- A seat has seen just this run, by a part that is no note.
pub record IsSeen (views : List (List Part)) (run : List Entry) : Type 0 where
  pub id : ℕ
  pub view : List Part
  pub at : get_elem? views id ≡ some view
  pub place : ℕ
  pub part : Part
  pub there : slice_get view place ≡ Some part
  pub stands : part.reach ≢ Noted
  pub saw : part.seen ≡ run

-- Whatever the table is, a seat has seen the longest run.
abbrev pub LongestIsSeen : Limits → (List Entry → Type 0) → Type 0
LongestIsSeen limits law = (s : State (Unit {0}) (List Part)) (now : Running limits law s) → IsSeen s.views now.run
