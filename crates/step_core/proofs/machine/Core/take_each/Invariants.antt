use Rattle.std.proofs.Common.{take}
use Rattle.step_core.specs.Turns.{AddsTurns}
use Rattle.step_core.proofs.machine.Core.take_each.Given as goal

abbrev pub invariant-loop-turn : goal.invariant-loop-turn
invariant-loop-turn g l = AddsTurns l.initial.self (take l.turn-index l.turns) l.self
