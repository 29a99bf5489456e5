use Rattle.std.proofs.Common.{◌≡◌}
use Rattle.change_machine.specs.Changes.{IsMade, IsSoundChange}
use Rattle.layer_tests.proofs.changes.drive.Given as goal

abbrev pub invariant-loop : goal.invariant-loop
invariant-loop l = IsSoundChange l.change l.spares × IsMade l.change l.spares × (l.change.limits ≡ l.fn.limits)
