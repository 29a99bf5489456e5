use Rattle.change_machine.specs.Spares.{HaveRoom}
use Rattle.layer_tests.proofs.changes.all_go.Given as goal

abbrev pub invariant-loop-case : goal.invariant-loop-case
invariant-loop-case l = HaveRoom l.limits l.spares
