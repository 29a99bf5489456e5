use Rattle.std.proofs.Common.{◌≡◌}
use Rattle.epochs.specs.Limbo.{compared_with, first_restaged}
use Rattle.epochs.proofs.stages.compare_first.Given as goal

abbrev pub invariant-loop-place : goal.invariant-loop-place
invariant-loop-place g l = l.queue ≡ record l.initial.queue { entries = first_restaged l.place (compared_with l.announces) l.initial.queue.entries }
