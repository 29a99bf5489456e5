use Rattle.running_tree.specs.Trees.{AreSeatsOf}
use Rattle.tree_tests.proofs.run_out.Trial.run.Given as goal

abbrev pub invariant-loop : goal.invariant-loop
invariant-loop l = AreSeatsOf l.tree l.seats.items
