use Rattle.sweep.proofs.Words.{◌≡◌, take}
use Rattle.sweep.specs.Taken.{with_rows}
use Rattle.sweep.proofs.taking_out.take_out.Given as goal

abbrev pub invariant-loop-row : goal.invariant-loop-row
invariant-loop-row g l = l.limbo ≡ record { rows = with_rows (take l.row-index l.rows) l.initial.limbo.rows; pids = l.initial.limbo.pids }
