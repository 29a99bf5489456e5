-- The jobs that are asked for.
use Rattle.std.specs.Prelude.{◌≡◌, ℕ, ◌<◌, ◌==◌, ◌⊎◌, ◌++◌, List, [], ◌∷◌, map, filter, All, Contains, vec_len}
use Rattle.bw_model.specs.declared.command.Command.{Command}
use Rattle.shell_lines.specs.declared.race_line.JobCommand.{JobCommand}
use Rattle.workers.specs.declared.job.Job.{Job}
use Rattle.workers.specs.Jobs.{AreAscending}

-- the commands that are asked of the job of this number, in order
abbrev pub commands_of : ℕ → List JobCommand → List Command
commands_of number asked = map (λ asks. asks.command) (filter (λ asks. asks.job == number) asked)

-- The jobs ascend by their numbers. Each has exactly the commands that are asked of its number, one at least, and each number of which
-- a command is asked has its job.
pub record AreJobsOf (asked : List JobCommand) (jobs : List Job) : Type 0 where
  pub ascending : AreAscending jobs
  pub commands : All (λ job. (job.commands.items ≡ commands_of job.number asked) × (0 < vec_len job.commands)) jobs
  pub all : All (λ asks. Contains (map (λ job. job.number) jobs) asks.job) asked

-- Behind these jobs stands the one of this number, if it has commands.
abbrev pub AddsJob : List Job → ℕ → List Command → List Job → Type 0
AddsJob old number commands new =
    ((commands ≡ []) × (new ≡ old))
    ⊎ ((job : Job) × (job.number ≡ number) × (job.commands.items ≡ commands) × (0 < vec_len job.commands) × (new ≡ old ++ job ∷ []))
