use Rattle.running_tree.specs.Trees.{IsSeatOf}
use Rattle.serving.proofs.serve.Given as goal

abbrev pub invariant-loop : goal.invariant-loop
invariant-loop g l = record { own : IsSeatOf l.tree l.seat }
