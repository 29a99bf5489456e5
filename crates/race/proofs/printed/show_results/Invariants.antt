use Rattle.std.proofs.Common.{take}
use Rattle.byte_streams.specs.Output.{Prints}
use Rattle.race.specs.Results.{results_text}
use Rattle.race.proofs.printed.show_results.Given as goal

abbrev pub invariant-loop-result : goal.invariant-loop-result
invariant-loop-result g l =
    Prints (g.O.Output.state l.initial.out) (g.O.Output.state l.out) (results_text (take l.result-index l.results))
