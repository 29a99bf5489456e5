-- What seats have done for jobs.
use Rattle.std.specs.Prelude.{◌≡◌, ◌<◌, ◌++◌, [], ℕ, List, length, Some, slice_get, All, flat_map, IsPermutation}
use Rattle.std.specs.List.Sorted.{IsNonDecreasingBy}
use Rattle.running_tree.specs.Runs.{IsOneHistory}
use Rattle.running_tree.specs.Seats.{Seat}
pub use Rattle.seats.specs.Gathered.{HaveOneHistory}
pub use Rattle.seats.specs.Idle.{AreIdle}
pub use Rattle.seats.specs.Replies.{GoesOn}
use Rattle.workers.specs.declared.job.Job.{Job}
use Rattle.workers.specs.declared.job.JobResult.{JobResult}
use Rattle.workers.specs.declared.job.JobsRefusal.{JobsRefusal}
use Rattle.workers.specs.declared.job.JobsRefusal.TheVariants.{NotRun, Results}
use Rattle.workers.specs.Jobs.{AreResultsOf, calls_told}

-- The results that name a seat by its place, in some order: together with others, which name other seats, they are all.
pub record AreNamed {A : Type 0} (place : ℕ) (results order : List (JobResult A)) : Type 0 where
  pub others : List (JobResult A)
  pub all : IsPermutation results (order ++ others)
  pub named : All (λ result. result.seat ≡ place) order
  pub apart : All (λ result. result.seat ≡ place → ⊥) others

-- The calls that the seat has made are those of exactly the results that name it, in some order of whole jobs. What it has seen is one
-- history.
pub record HasWorked {A : Type 0} (results : List (JobResult A)) (place : ℕ) (old new : Seat) : Type 0 where
  pub order : List (JobResult A)
  pub named : AreNamed place results order
  pub goes : GoesOn old (flat_map calls_told order) new
  pub history : IsOneHistory new.limits new.seen

-- All seats are there, in order, and each has worked. Each result names one of them.
pub record HaveWorked {A : Type 0} (results : List (JobResult A)) (old new : List Seat) : Type 0 where
  pub count : length new ≡ length old
  pub seated : All (λ result. result.seat < length old) results
  pub each : (place : ℕ) (before after : Seat) → slice_get old place ≡ Some before → slice_get new place ≡ Some after → HasWorked results place before after

-- What the seats that come back from a refusal have done, and the results that come with it. Where memory or a thread couldn't be had,
-- nothing. Otherwise they have worked, in one history, but the results, in order of their numbers, are not those of the jobs.
abbrev pub HaveStopped : {A : Type 0} → List Job → JobsRefusal → List (JobResult A) → List Seat → List Seat → Type 0
HaveStopped jobs NotRun results old new = (new ≡ old) × (results ≡ [])
HaveStopped jobs Results results old new = HaveWorked results old new × HaveOneHistory new × IsNonDecreasingBy (λ result. result.job) results × (AreResultsOf jobs results → ⊥)
