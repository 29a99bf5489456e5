use Rattle.traces.specs.discipline.Knowledge.{nothing}
use Rattle.layer_tests.proofs.long_limbo.sweep.Goals as goal

pub next-goes-requires-clause-told : goal.next-goes-requires-clause-told
next-goes-requires-clause-told c = record { k = nothing; fits = rw c.step-step.ensures.wanted at (c.told.ensures.fits c.loop.sweep.limits) }
