use Rattle.running_tree.proofs.Ascending.{Adjacent}
use Rattle.running_tree.proofs.loading.keys_ascend.Given as goal

abbrev pub invariant-loop-place : goal.invariant-loop-place
invariant-loop-place l = record { ascend : Adjacent l.pairs l.place }
