-- What workers do, each at its place among the seats.
use Rattle.std.specs.Prelude.{◌≡◌, ◌≤◌, ◌++◌, ◌∷◌, ◌*◌, [], ℕ, All, Vec, flat_map, vec_len}
use Rattle.std.specs.Vec.{vec_capacity}
use Rattle.running_tree.specs.Seats.{Seat}
use Rattle.workers.specs.declared.job.JobResult.{JobResult}
use Rattle.workers.specs.declared.room.Room.{Room}
use Rattle.workers.specs.declared.worker.Worker.{Worker}
use Rattle.workers.specs.Jobs.{calls_told}
use Rattle.workers.specs.Worked.{GoesOn}

-- A worker ran a job, and its list has one result more, which names its place.
pub record AddsResult {A : Type 0} (place : ℕ) (old new : Worker A) : Type 0 where
  pub result : JobResult A
  pub named : result.seat ≡ place
  pub kept : new.done.items ≡ old.done.items ++ result ∷ []
  pub goes : GoesOn old.seat (calls_told result) new.seat

-- Since the seat was this one a worker ran jobs, of which its list has the results: they name its place, and aren't more than so many.
pub record HasDone {A : Type 0} (place limit : ℕ) (old : Seat) (new : Worker A) : Type 0 where
  pub goes : GoesOn old (flat_map calls_told new.done.items) new.seat
  pub named : All (λ result. result.seat ≡ place) new.done.items
  pub few : vec_len new.done ≤ limit

-- An empty list has room for so many.
abbrev pub HasRoom : {A B : Type 0} → ℕ → Vec (JobResult A) B → Type 0
HasRoom limit list = (list.items ≡ []) × (limit ≤ vec_capacity list)

-- Room for so many workers and results: all lists are empty.
pub record IsRoom {A : Type 0} (count limit : ℕ) (room : Room A) : Type 0 where
  pub lists : vec_len room.lists ≡ count
  pub each : All (HasRoom limit) room.lists.items
  pub workers : room.workers.items ≡ []
  pub workers_room : count ≤ vec_capacity room.workers
  pub back : room.back.items ≡ []
  pub back_room : count ≤ vec_capacity room.back
  pub seats : room.seats.items ≡ []
  pub seats_room : count ≤ vec_capacity room.seats
  pub results : room.results.items ≡ []
  pub results_room : count * limit ≤ vec_capacity room.results
