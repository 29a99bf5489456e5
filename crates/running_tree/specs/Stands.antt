-- What stands in a row of a tree, by what the actor of a seat knows.
use Rattle.std.specs.Prelude.{◌≡◌, ◌<◌, ℕ, unwrap_or}
use Rattle.atomic_table.specs.Seated.{TableId}
use Rattle.tree_limits.specs.declared.limits.Limits.{Limits}
use Rattle.deltas.specs.declared.record.Record.{Record}
use Rattle.deltas.specs.declared.record.Record.TheVariants.{Remove}
use Rattle.traces.specs.discipline.Knowledge.{knows}
use Rattle.table_rule.specs.declared.view.Reach.TheVariants.{Idle}
use Rattle.table_rule.specs.Steps.{HasReadRecord}
use Rattle.table_rule.specs.Views.{Mine, SitsAt, seen_of}
use Rattle.tree_words.specs.Layout.{row_at}
use Rattle.running_tree.specs.declared.desk.PlacedRow.{PlacedRow}

-- the record that the actor has read in a row, or some record where it has read none
abbrev pub read_by : Mine → ℕ → ℕ → Record
read_by me actor row = unwrap_or ((knows (seen_of me) actor).read.seen row) (Remove (record { level = 0; next = 1 }))

-- The seat is one of the tree's table, between two steps; its actor has read the record in the row since it entered.
pub record Stands (limits : Limits) (table seat : TableId) (actor : ℕ) (me : Mine) (row : ℕ) (content : Record) : Type 0 where
  pub same : seat ≡ table
  pub there : row < limits.rows
  pub sits : SitsAt limits actor Idle me
  pub read : HasReadRecord (knows (seen_of me) actor) row content

-- The seat stands so at a row with the place of its first word, which may be one of a large tree.
pub record StandsWithPlace (limits : Limits) (table seat : TableId) (actor : ℕ) (me : Mine) (row : PlacedRow) (content : Record) : Type 0 where
  pub stands : Stands limits table seat actor me row.row content
  pub place : row.place ≡ row_at limits row.row 0
  pub large : row.is_large ≡ limits.is_large
