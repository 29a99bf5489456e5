use Rattle.std.proofs.Common.{refl}
use Rattle.rand_core.specs.Pcg32Seed.{pcg32_seed}
use Rattle.rand_core.specs.Steps.{u32_at, word_bytes}
use Rattle.bw_model.specs.Schedules.{drawn}
use Rattle.bw_model.proofs.examples.schedules_are_drawn.Goals as goal

pub returns-clause-two_actors : goal.returns-clause-two_actors
unfolding drawn u32_at pcg32_seed word_bytes
returns-clause-two_actors c = refl

pub returns-clause-three_actors : goal.returns-clause-three_actors
unfolding drawn u32_at pcg32_seed word_bytes
returns-clause-three_actors c = refl
