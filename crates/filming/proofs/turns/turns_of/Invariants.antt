use Rattle.std.proofs.Common.{◌≡◌, map, take}
use Rattle.traces.specs.trace.Trace.{turn_of}
use Rattle.filming.proofs.turns.turns_of.Given as goal

abbrev pub invariant-loop-place : goal.invariant-loop-place
invariant-loop-place l = l.turns.items ≡ map turn_of (take l.place l.trace.entries.items)
