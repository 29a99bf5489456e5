use Rattle.running_tree.specs.Trees.{IsSeatOf}
use Rattle.guide.proofs.notes.tell.Given as goal

abbrev pub invariant-loop-number : goal.invariant-loop-number
invariant-loop-number g l = record { own : IsSeatOf l.tree l.seat }
