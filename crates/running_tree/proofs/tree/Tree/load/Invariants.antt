use Rattle.running_tree.proofs.Words.{take, HasLoaded, IsSame}
use Rattle.running_tree.proofs.tree.Tree.load.Given as goal

abbrev pub invariant-loop-place : goal.invariant-loop-place
invariant-loop-place g l = record {
  same : IsSame l.fn.seat l.seat;
  loaded : HasLoaded l.fn.seat (take l.place l.pairs) l.seat;
}
