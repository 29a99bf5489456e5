-- Schedules: whose turn it is, drawn by a generator of random numbers.
use Rattle.std.specs.Prelude.{ℕ, zero, suc, ◌%◌, List, [], ◌∷◌}
use Rattle.rand_core.specs.Pcg32Seed.{pcg32_seed}
use Rattle.rand_pcg.specs.Lcg.{Lcg}
use Rattle.rand_pcg.specs.Pcg.{pcg32, pcg32_of_seed}

pub record Schedule : Type 0 where
  pub generator : Lcg
  pub actors : ℕ

-- the generator that a number seeds
abbrev pub seeded_by : ℕ → Lcg
seeded_by seed = pcg32_of_seed (pcg32_seed 16 seed)

abbrev pub schedule_of : ℕ → ℕ → Schedule
schedule_of seed actors = record { generator = seeded_by seed; actors = actors }

-- the actor that is next: the generator's next word, modulo the number of actors
abbrev pub next_actor : Schedule → ℕ
next_actor schedule = (pcg32 schedule.generator).0 % schedule.actors

-- what is left behind that word
abbrev pub moved_on : Schedule → Schedule
moved_on schedule = record schedule { generator = (pcg32 schedule.generator).1 }

-- the next so many actors
unfoldable pub drawn : ℕ → Schedule → List ℕ
drawn zero schedule = []
drawn (suc n) schedule = next_actor schedule ∷ drawn n (moved_on schedule)
