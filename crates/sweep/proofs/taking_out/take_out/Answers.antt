use Rattle.sweep.proofs.Unlinking.{new_next}
use Rattle.sweep.proofs.taking_out.take_out.Goals as goal

pub unlinked-requires : goal.unlinked-requires
unlinked-requires g c = rw c.loop-row.invariant (new_next c.args.limbo.now.rows c.args.rows.now c.loop-row.row-index c.loop-row-test.true c.requires.apart c.requires.new_rows)
