use Rattle.std.proofs.Common.{◌≡◌, ◌≤◌, ◌+◌, ℕ, [], List, take}
use Rattle.byte_streams.specs.Output.{Prints}
use Rattle.filming.specs.Films.{AreFilmed, frames_behind}
use Rattle.filming.proofs.frames.film_turns.Given as goal

abbrev pub invariant-loop-turn : goal.invariant-loop-turn
invariant-loop-turn g l = record {
  filmed : (text : List ℕ) × AreFilmed 1 l.initial.core [] (take l.turn-index l.turns) l.core l.log.items text × Prints (g.O.Output.state l.initial.out) (g.O.Output.state l.out) text;
  number : l.number ≡ frames_behind 1 (take l.turn-index l.turns);
  few : l.number ≤ l.turn-index + 1;
}
