use Rattle.byte_streams.proofs.Showing.{so_far_more}
use Rattle.byte_streams.proofs.over_std.write_out.Goals as goal

pub loop-rest-preserved : goal.loop-rest-preserved
loop-rest-preserved g c = rw c.split_at.ensures.back (so_far_more _ _ _ _ _ c.in-Ok.n c.loop-rest.invariant c.in-Ok.ensures.bytes)
