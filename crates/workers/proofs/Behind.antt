-- Lists behind which stand what is taken of another one's elements.
use Rattle.workers.proofs.Words.{AreSeatsOf, IsSeatOf, List, Seat, Some, Tree, ap, arith, length, refl, slice_get, suc, with_each_behind, ℕ, [], ◌++◌, ◌∙◌, ◌∷◌}
use Rattle.workers.proofs.Words.{◌≡◌}
use Rattle.workers.specs.Works.{AreEachDone}
use Rattle.seats.proofs.Pushed.{all_pushed}

-- one element goes over from one list to the other
pub behind_push : {X Y : Type 0} (f : X → Y) (ys : List Y) (xs : List X) (x : X) → with_each_behind f ys (xs ++ x ∷ []) ≡ with_each_behind f (ys ++ f x ∷ []) xs
behind_push f ys [] x = refl
behind_push f ys (first ∷ xs) x = ap (λ z. z ++ f first ∷ []) (behind_push f ys xs x)

-- nothing is taken of an empty list
pub behind_none : {X Y : Type 0} (f : X → Y) (ys : List Y) (xs : List X) → length xs ≡ 0 → with_each_behind f ys xs ≡ ys
behind_none f ys [] none = refl
behind_none f ys (x ∷ xs) none = absurd (omega (arith, none))

abbrev seat_of : {W : Type 0} → Seat × W → Seat
seat_of job = job.0

rest_done : {W : Type 0} (comes_to : W → Seat → W → Seat → Type 0) (old new : Seat × W) (before after : List (Seat × W))
    → AreEachDone comes_to (old ∷ before) (new ∷ after) → AreEachDone comes_to before after
rest_done comes_to old new before after done = let count = done.count in record { count = omega (arith, count); each = λ n. done.each (suc n) }

-- the seats with which works were done are the tree's, as they were
pub own_behind : {W : Type 0} (comes_to : W → Seat → W → Seat → Type 0) (tree : Tree) (others : List Seat) (before after : List (Seat × W)) → AreSeatsOf tree others
    → ((n : ℕ) (job : Seat × W) → slice_get before n ≡ Some job → IsSeatOf tree job.0) → AreEachDone comes_to before after → AreSeatsOf tree (with_each_behind seat_of others after)
own_behind comes_to tree others [] [] left own done = left
own_behind comes_to tree others [] (new ∷ after) left own done = let count = done.count in absurd (omega (arith, count))
own_behind comes_to tree others (old ∷ before) [] left own done = let count = done.count in absurd (omega (arith, count))
own_behind comes_to tree others (old ∷ before) (new ∷ after) left own done =
    let is = done.each 0 old new refl refl in
    let was = own 0 old refl in
    all_pushed (IsSeatOf tree) (with_each_behind seat_of others after) new.0
    (own_behind comes_to tree others before after left (λ n job at. own (suc n) job at) (rest_done comes_to old new before after done))
    (record { table = is.same.table ∙ was.table; limits = is.same.limits ∙ was.limits })
