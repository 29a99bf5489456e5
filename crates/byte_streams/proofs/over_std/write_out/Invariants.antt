use Rattle.std.proofs.Common.{length}
use Rattle.byte_streams.proofs.Showing.{SoFar}
use Rattle.byte_streams.proofs.over_std.write_out.Given as goal

abbrev pub invariant-loop-rest : goal.invariant-loop-rest
invariant-loop-rest g l = SoFar (g.W.Write.contents l.initial.inner) (g.W.Write.contents l.inner) l.bytes l.rest

abbrev pub decreases-loop-rest : goal.decreases-loop-rest
decreases-loop-rest g l = length l.rest
