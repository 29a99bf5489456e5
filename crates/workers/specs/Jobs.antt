-- Jobs, and what a result tells of one.
use Rattle.std.specs.Prelude.{◌≡◌, ℕ, List, length, map, zip, Option, Some, slice_get, vec_len}
use Rattle.std.specs.List.Sorted.{IsStrictlyIncreasing}
use Rattle.bw_model.specs.declared.command.Command.{Command}
use Rattle.bw_model.specs.declared.command.Reply.{Reply}
use Rattle.workers.specs.declared.job.Job.{Job}
use Rattle.workers.specs.declared.job.JobResult.{JobResult}

-- The jobs stand in order of their numbers, and no two have the same one.
abbrev pub AreAscending : List Job → Type 0
AreAscending jobs = IsStrictlyIncreasing (map (λ job. job.number) jobs)

-- The result is the job's: it has the job's number and its own commands, and one reply for each of these.
pub record IsResultOf {A : Type 0} (job : Job) (result : JobResult A) : Type 0 where
  pub number : result.job ≡ job.number
  pub commands : result.commands.items ≡ job.commands.items
  pub replies : vec_len result.replies ≡ vec_len job.commands

-- Each job has one result, and the results stand in the jobs' order.
pub record AreResultsOf {A : Type 0} (jobs : List Job) (results : List (JobResult A)) : Type 0 where
  pub count : length results ≡ length jobs
  pub each : (n : ℕ) (job : Job) (result : JobResult A) → slice_get jobs n ≡ Some job → slice_get results n ≡ Some result → IsResultOf job result

-- the calls that a result tells of: its commands in order, each with its reply
abbrev pub calls_told : {A : Type 0} → JobResult A → List (Command × Option Reply)
calls_told result = zip result.commands.items (map Some result.replies.items)
