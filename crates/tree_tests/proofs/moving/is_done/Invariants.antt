use Rattle.running_tree.specs.Seats.{IsSame}
use Rattle.tree_tests.proofs.moving.is_done.Given as goal

abbrev pub invariant-loop : goal.invariant-loop
invariant-loop l = record { same : IsSame l.initial.seat l.seat }
