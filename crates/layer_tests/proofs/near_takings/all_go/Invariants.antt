use Rattle.change_machine.specs.Spares.{HaveRoom}
use Rattle.layer_tests.proofs.near_takings.all_go.Given as goal

abbrev pub invariant-loop-misses : goal.invariant-loop-misses
invariant-loop-misses l = HaveRoom l.limits l.spares
