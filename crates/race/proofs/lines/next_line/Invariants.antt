use Rattle.std.proofs.Common.{take}
use Rattle.bw_shell.specs.Lines.{HasNoFeed}
use Rattle.race.proofs.lines.next_line.Given as goal

abbrev pub invariant-loop-i : goal.invariant-loop-i
invariant-loop-i l = HasNoFeed (take l.i l.rest)
