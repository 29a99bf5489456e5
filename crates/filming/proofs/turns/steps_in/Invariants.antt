use Rattle.std.proofs.Common.{◌≡◌, ◌≤◌, take}
use Rattle.filming.specs.Films.{steps_in}
use Rattle.filming.proofs.turns.steps_in.Given as goal

abbrev pub invariant-loop-turn : goal.invariant-loop-turn
invariant-loop-turn l = record {
  steps : l.steps ≡ steps_in (take l.turn-index l.turns);
  few : l.steps ≤ l.turn-index;
}
