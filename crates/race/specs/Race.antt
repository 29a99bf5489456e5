-- What a race does, from its lines to what is written.
use Rattle.std.specs.Prelude.{◌≡◌, ℕ, ◌⊎◌, ◌↔◌, List, [], ◌++◌, Bool, true, false, not, Option}
use Rattle.std.specs.Io.KnownBytes.{Consumes, IsAtEnd}
use Rattle.std.specs.Global.{Global}
use Rattle.tree_limits.specs.declared.limits.Limits.{Limits}
use Rattle.shell_lines.specs.declared.race_line.JobCommand.{JobCommand}
use Rattle.running_tree.specs.Seats.{Seat}
use Rattle.running_tree.specs.Trees.{Tree, AreFresh, AreClosed}
use Rattle.byte_streams.specs.Output.{Writes}
use Rattle.bw_shell.specs.Text.{listing_text, lone_refusal_text, refused_text}
use Rattle.bw_shell.specs.declared.refusal.Refusal.{Refusal}
use Rattle.bw_shell.specs.declared.refusal.Refusal.TheVariants as refusal
use Rattle.workers.specs.declared.job.Job.{Job}
use Rattle.workers.specs.declared.job.JobResult.{JobResult}
use Rattle.workers.specs.declared.job.JobsRefusal.{JobsRefusal}
use Rattle.workers.specs.declared.job.JobsRefusal.TheVariants as jobs
use Rattle.workers.specs.Jobs.{AreResultsOf}
use Rattle.workers.specs.Worked.{HaveStopped, HaveWorked}
use Rattle.race.specs.Asked.{AskFor, RefuseAt}
use Rattle.race.specs.Looked.{AreLinesOf}
use Rattle.race.specs.Jobs.{AreJobsOf}
use Rattle.race.specs.Results.{results_text}

-- On a fresh tree's seats the jobs were run, with these results; so the seats are now.
pub record HaveRun (limits : Limits) (jobs : List Job) (results : List (JobResult Global)) (seats : List Seat) : Type 0 where
  pub tree : Tree
  pub fresh : List Seat
  pub limited : tree.limits ≡ limits
  pub opened : AreFresh tree fresh
  pub each : AreResultsOf jobs results
  pub worked : HaveWorked results fresh seats

-- The jobs of a fresh tree's seats were refused.
pub record WereRefused (limits : Limits) (jobs : List Job) (why : JobsRefusal) : Type 0 where
  pub tree : Tree
  pub fresh : List Seat
  pub seats : List Seat
  pub limited : tree.limits ≡ limits
  pub opened : AreFresh tree fresh
  pub results : List (JobResult Global)
  pub stopped : HaveStopped jobs why results fresh seats

-- how the program tells why jobs were refused
abbrev pub told_as : JobsRefusal → Refusal
told_as jobs.NotRun = refusal.NotRun
told_as jobs.Results = refusal.WrongResults

-- What is printed for results, and for closing the tree with its seats: its pairs, or that it was refused.
abbrev pub Closes : Limits → List (JobResult Global) → List Seat → List ℕ → Bool → Type 0
Closes limits results seats text false = (pairs : List (List ℕ × List ℕ)) × AreClosed limits seats pairs × (text ≡ results_text results ++ listing_text pairs)
Closes limits results seats text true = text ≡ results_text results ++ lone_refusal_text refusal.NotClosed

-- What is printed for jobs: their replies and the pairs of the closed tree; or only why no tree could be opened, or the jobs were
-- refused.
abbrev pub RunsJobs : Limits → List Job → List ℕ → Bool → Type 0
RunsJobs limits jobs text refused =
    ((results : List (JobResult Global)) × (seats : List Seat) × HaveRun limits jobs results seats × Closes limits results seats text refused)
    ⊎ ((refused ≡ true) × (text ≡ lone_refusal_text refusal.NotOpened))
    ⊎ ((refused ≡ true) × (why : JobsRefusal) × WereRefused limits jobs why × (text ≡ lone_refusal_text (told_as why)))

-- What is printed for commands that are asked of jobs: nothing, where the input has not ended.
abbrev pub RunsAsked : Limits → Bool → List JobCommand → List ℕ → Bool → Type 0
RunsAsked limits false asked text refused = (refused ≡ false) × (text ≡ [])
RunsAsked limits true asked text refused =
    ((jobs : List Job) × AreJobsOf asked jobs × RunsJobs limits jobs text refused)
    ⊎ ((refused ≡ true) × (text ≡ lone_refusal_text refusal.Memory))

-- What is printed for lines: the first one that is refused; or what their jobs come to, or that there was no memory for these. Where
-- the input has not ended, no job is run.
abbrev pub RunsLines : Limits → Bool → List (List ℕ) → List ℕ → Bool → Type 0
RunsLines limits ended lines text refused =
    ((refused ≡ true) × (number : ℕ) × (why : Refusal) × RefuseAt lines number why × (text ≡ refused_text number why))
    ⊎ ((asked : List JobCommand) × AskFor lines asked × RunsAsked limits ended asked text refused)

-- What is printed for the bytes of an input, or for those before a failed read.
abbrev pub RunsBytes : Limits → List ℕ → Bool → List ℕ → Bool → Type 0
RunsBytes limits bytes ended text refused = (lines : List (List ℕ)) × AreLinesOf bytes ended lines × RunsLines limits ended lines text refused

-- What is printed for what was taken from the input.
abbrev pub TellsJobs : Option (List ℕ) → Limits → List ℕ → Bool → List ℕ → Bool → Type 0
TellsJobs left limits taken read_failed text refused =
    -- to its end, or as far as a failed read
    ((read_failed ≡ false → IsAtEnd left) × RunsBytes limits taken (not read_failed) text refused)
    -- memory was refused before
    ⊎ ((read_failed ≡ false) × (refused ≡ true) × (text ≡ lone_refusal_text refusal.Memory))

-- The whole race: what is taken from the reader, the text for it, and how much of that was written.
pub record IsRace (limits : Limits) (in_old in_new : Option (List ℕ)) (read_failed : Bool) (out_old out_new : Option (List ℕ)) (write_failed : Bool) (status : ℕ) : Type 0 where
  pub taken : List ℕ
  pub text : List ℕ
  pub refused : Bool
  pub reads : Consumes in_old in_new taken
  pub tells : TellsJobs in_new limits taken read_failed text refused
  pub writes : Writes out_old out_new text (not write_failed)
  pub status_is : (status ≡ 0) ↔ ((read_failed ≡ false) × (write_failed ≡ false) × (refused ≡ false))
  pub status_else : (status ≡ 0) ⊎ (status ≡ 1)
