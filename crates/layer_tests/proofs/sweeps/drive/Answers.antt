use Rattle.traces.specs.discipline.Knowledge.{nothing}
use Rattle.layer_tests.proofs.sweeps.drive.Goals as goal

pub next-requires-clause-told : goal.next-requires-clause-told
next-requires-clause-told c = record { k = nothing; fits = rw c.step-step.ensures.wanted at (c.told.ensures.fits c.loop.sweep.limits) }
