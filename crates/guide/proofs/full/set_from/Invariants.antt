use Rattle.running_tree.specs.Trees.{IsSeatOf}
use Rattle.guide.proofs.full.set_from.Given as goal

abbrev pub invariant-loop-place : goal.invariant-loop-place
invariant-loop-place l = record { own : IsSeatOf l.tree l.seat }
