-- Workers in threads of their own, of which none runs a job before all threads stand.
use Rattle.std.specs.Prelude.{◌≡◌, ℕ, Bool, List, MatchBool, Some, length, slice_get}
use Rattle.running_tree.specs.Runs.{IsOneHistory}
use Rattle.workers.specs.declared.begun.Back.{Back}
use Rattle.workers.specs.declared.begun.Begun.{Begun}
use Rattle.workers.specs.declared.begun.Begun.TheVariants as begun
use Rattle.workers.specs.declared.worker.Worker.{Worker}
use Rattle.workers.specs.Working.{HasDone}

-- A worker ran jobs at its place, and what its seat has seen is one history.
abbrev pub HasRunJobs : {A : Type 0} → ℕ → ℕ → Worker A → Worker A → Type 0
HasRunJobs limit place old new = HasDone place limit old.seat new × IsOneHistory new.seat.limits new.seat.seen

-- A worker was told whether it may run jobs. If so it ran some, else it is as it was.
abbrev pub ComesBack : {A : Type 0} → Bool → ℕ → ℕ → Worker A → Worker A → Type 0
ComesBack told limit place old new = MatchBool told (HasRunJobs limit place old new) (new ≡ old)

-- A worker is back, and was told by this lock.
pub record IsBack {A : Type 0} (limit id place : ℕ) (old : Worker A) (back : Back A) : Type 0 where
  pub told : back.told.of ≡ id
  pub comes : ComesBack back.told.value limit place old back.worker

-- A worker was begun: its thread will bring it back, or it is back.
abbrev pub IsBegun : {A : Type 0} → ℕ → ℕ → ℕ → Worker A → Begun A → Type 0
IsBegun limit id place old (begun.Standing handle) =
    (handle.promise.may_run.value.id ≡ id) × (handle.promise.place ≡ place) × (handle.promise.limit ≡ limit) × (handle.promise.worker.value ≡ old)
IsBegun limit id place old (begun.Back back) = IsBack limit id place old back

-- All workers were begun, in their order.
pub record AreBegun {A : Type 0} (limit id : ℕ) (olds : List (Worker A)) (begun : List (Begun A)) : Type 0 where
  pub count : length begun ≡ length olds
  pub each : (place : ℕ) (old : Worker A) (one : Begun A) → slice_get olds place ≡ Some old → slice_get begun place ≡ Some one → IsBegun limit id place old one

-- The lock by which the worker is told.
abbrev pub IsToldBy : {A : Type 0} → ℕ → Begun A → Type 0
IsToldBy id (begun.Standing handle) = handle.promise.may_run.value.id ≡ id
IsToldBy id (begun.Back back) = back.told.of ≡ id

-- Whatever worker was begun came back as this one.
abbrev pub HasJoined : {A : Type 0} → Bool → Begun A → Worker A → Type 0
HasJoined {A = A} told one new = (limit id place : ℕ) (old : Worker A) → IsBegun limit id place old one → ComesBack told limit place old new

-- All that were begun came back, in their order.
pub record HaveJoined {A : Type 0} (told : Bool) (begun : List (Begun A)) (news : List (Worker A)) : Type 0 where
  pub count : length news ≡ length begun
  pub each : (place : ℕ) (one : Begun A) (new : Worker A) → slice_get begun place ≡ Some one → slice_get news place ≡ Some new → HasJoined told one new

-- All workers came back, in their order.
pub record HaveComeBack {A : Type 0} (told : Bool) (limit : ℕ) (olds news : List (Worker A)) : Type 0 where
  pub count : length news ≡ length olds
  pub each : (place : ℕ) (old new : Worker A) → slice_get olds place ≡ Some old → slice_get news place ≡ Some new → ComesBack told limit place old new
