use Rattle.std.proofs.Common.{◌≡◌}
use Rattle.epochs.specs.Limbo.{first_restaged, stamped_by}
use Rattle.epochs.proofs.stages.stamp_from.Given as goal

abbrev pub invariant-loop-place : goal.invariant-loop-place
invariant-loop-place g l = l.queue ≡ record l.initial.queue { entries = first_restaged l.place (stamped_by l.epoch) l.initial.queue.entries }
