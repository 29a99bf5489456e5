use Rattle.running_tree.specs.Seats.{IsSame}
use Rattle.guide.proofs.budgets.in_pieces.Given as goal

abbrev pub invariant-loop-pieces : goal.invariant-loop-pieces
invariant-loop-pieces l = record { same : IsSame l.initial.seat l.seat }
