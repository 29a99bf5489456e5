-- Works that are done, each with a seat of its own.
use Rattle.std.specs.Prelude.{◌≡◌, ◌++◌, ◌∷◌, [], ℕ, List, Some, length, slice_get}
use Rattle.running_tree.specs.Runs.{StartsWith}
use Rattle.running_tree.specs.Seats.{IsSame, Seat}
use Rattle.seats.specs.Gathered.{SeesOn}

-- the list, and behind it what is taken of each element of another list, from that one's last to its first
abbrev pub with_each_behind : {X Y : Type 0} → (X → Y) → List Y → List X → List Y
with_each_behind f list [] = list
with_each_behind f list (x ∷ xs) = with_each_behind f list xs ++ f x ∷ []

-- A work was done with a seat. The seat is what the work has left, and may have seen more of others since; it has seen all that it had seen.
pub record IsWorkDone {W : Type 0} (comes_to : W → Seat → W → Seat → Type 0) (before after : Seat × W) : Type 0 where
  pub left : Seat
  pub does : comes_to before.1 before.0 after.1 left
  pub on : SeesOn left after.0
  pub same : IsSame before.0 after.0
  pub grows : StartsWith after.0.seen before.0.seen

-- Each work was done with its seat.
pub record AreEachDone {W : Type 0} (comes_to : W → Seat → W → Seat → Type 0) (before after : List (Seat × W)) : Type 0 where
  pub count : length after ≡ length before
  pub each : (n : ℕ) (old new : Seat × W) → slice_get before n ≡ Some old → slice_get after n ≡ Some new → IsWorkDone comes_to old new

-- The works were done, each with a seat of its own: these are the list's last ones, and the last work has the last one. Seats and works come
-- back to where they stood. The other seats are as they were.
pub record AreDone {W : Type 0} (comes_to : W → Seat → W → Seat → Type 0) (old new : List Seat) (given done : List W) : Type 0 where
  pub others : List Seat
  pub before : List (Seat × W)
  pub after : List (Seat × W)
  pub seats : old ≡ with_each_behind (λ one. one.0) others before
  pub works : given ≡ with_each_behind (λ one. one.1) [] before
  pub seats_after : new ≡ with_each_behind (λ one. one.0) others after
  pub works_after : done ≡ with_each_behind (λ one. one.1) [] after
  pub each : AreEachDone comes_to before after
