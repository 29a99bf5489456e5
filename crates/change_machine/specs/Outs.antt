-- What a change takes out of the tree, and so into the limbo of its actor.
use Rattle.std.specs.Prelude.{◌≡◌, ◌<◌, ℕ, Option, Some, ⊤}
use Rattle.tree_limits.specs.declared.limits.Limits.{Limits}
use Rattle.deltas.specs.Memory.{replaced_at}
use Rattle.deltas.specs.declared.record.Record.{Record}
use Rattle.deltas.specs.declared.record.Record.TheVariants.{Base}
use Rattle.traces.specs.discipline.Fitting.{AreOutOfLimbo}
use Rattle.traces.specs.discipline.Knowledge.{Absent, Knowledge, Limbos, Unstamped, taken_out}
use Rattle.change_machine.specs.declared.change.End.{End}
use Rattle.change_machine.specs.declared.change.End.TheVariants.{Won}
use Rattle.structure_changes.specs.declared.plan.Plan.{Plan}
use Rattle.structure_changes.specs.declared.plan.Plan.TheVariants.{Install, Unlink}

-- after a record was linked over a row: a base takes the chain out in whose place it comes
abbrev pub limbo_over : Record → ℕ → Knowledge → Limbos
limbo_over (Base page) head k = record k.limbo { rows = taken_out k.read.seen head k.limbo.rows }
limbo_over _ head k = k.limbo

-- after a change won: a page that it cleared is out, with its chain
abbrev pub limbo_won : Plan → Knowledge → Limbos
limbo_won (Install pid head content) k = limbo_over content head k
limbo_won (Unlink pid head unterm removal) k = record k.limbo { rows = taken_out k.read.seen removal k.limbo.rows; pids = replaced_at unterm.child Unstamped k.limbo.pids }
limbo_won _ k = k.limbo

-- after an answer with which a change ended so, or goes on
abbrev pub limbo_after : Plan → Option End → Knowledge → Limbos
limbo_after plan (Some Won) k = limbo_won plan k
limbo_after plan end k = k.limbo

-- The chain that a record linked over this row takes out was in no limbo.
abbrev pub IsFreshOver : Limits → Knowledge → Record → ℕ → Type 0
IsFreshOver limits k (Base page) head = AreOutOfLimbo limits k head
IsFreshOver limits k _ head = ⊤

-- What a change that won takes out was in no limbo, and is of numbers that there are.
abbrev pub IsFreshWon : Limits → Knowledge → Plan → Type 0
IsFreshWon limits k (Install pid head content) = IsFreshOver limits k content head
IsFreshWon limits k (Unlink pid head unterm removal) = (0 < unterm.child) × (unterm.child < limits.pids) × (k.limbo.pids unterm.child ≡ Absent) × AreOutOfLimbo limits k removal
IsFreshWon limits k _ = ⊤

-- the same of a change that ended so, or goes on
abbrev pub TakesFresh : Limits → Knowledge → Plan → Option End → Type 0
TakesFresh limits k plan (Some Won) = IsFreshWon limits k plan
TakesFresh limits k plan end = ⊤
