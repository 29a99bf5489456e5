-- What works say of their seats is so of seats of the list that comes back.
use Rattle.std.proofs.Common.{◌≡◌, ℕ, zero, suc, List, [], ◌∷◌, ◌++◌, Some, arith, length, refl, subst, sym}
use Rattle.std.specs.Prelude.{slice_get}
use Rattle.std.proofs.lemmas.Option.{same_Some}
use Rattle.running_tree.specs.Seats.{Seat}
use Rattle.seats.specs.Gathered.{SeesOn}
use Rattle.workers.specs.Works.{AreDone, AreEachDone, with_each_behind}

-- An element stands at the same place before others, and the last one stands behind all.
before_others : {X : Type 0} (xs ys : List X) (n : ℕ) (x : X) → slice_get xs n ≡ Some x → slice_get (xs ++ ys) n ≡ Some x
before_others [] ys n x e = cc
before_others (first ∷ xs) ys zero x e = e
before_others (first ∷ xs) ys (suc n) x e = before_others xs ys n x e

behind_others : {X : Type 0} (xs : List X) (last : X) → slice_get (xs ++ last ∷ []) (length xs) ≡ Some last
behind_others [] last = refl
behind_others (first ∷ xs) last = behind_others xs last

-- What holds of each element of a list, and of one more, holds of each of both.
all_pushed : {X : Type 0} (P : X → Type 0) (xs : List X) (last : X) → ((n : ℕ) (x : X) → slice_get xs n ≡ Some x → P x) → P last
    → (n : ℕ) (x : X) → slice_get (xs ++ last ∷ []) n ≡ Some x → P x
all_pushed P [] last all one zero x e = subst P (same_Some last x e) one
all_pushed P [] last all one (suc n) x e = cc
all_pushed P (first ∷ xs) last all one zero x e = all zero x e
all_pushed P (first ∷ xs) last all one (suc n) x e = all_pushed P xs last (λ m y h. all (suc m) y h) one n x e

-- What P says of a work and a seat is so of this work and a seat of the list.
abbrev HasSeat : {W : Type 0} → (W → Seat → Type 0) → List Seat → W → Type 0
HasSeat P seats work = (m : ℕ) × (seat : Seat) × (slice_get seats m ≡ Some seat) × P work seat

-- so it is, too, where the list has one seat more
has_still : {W : Type 0} (P : W → Seat → Type 0) (seats : List Seat) (last : Seat) (work : W) → HasSeat P seats work → HasSeat P (seats ++ last ∷ []) work
has_still P seats last work (m, seat, at, is) = (m, seat, before_others seats (last ∷ []) m seat at, is)

-- What follows from what a work says, when its seat has seen more of others.
abbrev Follows : {W : Type 0} → (W → Seat → W → Seat → Type 0) → (W → Seat → Type 0) → Type 0
Follows {W} comes_to P = (given : W) (before : Seat) (done : W) (left after : Seat) → comes_to given before done left → SeesOn left after → P done after

each_has : {W : Type 0} (comes_to : W → Seat → W → Seat → Type 0) (P : W → Seat → Type 0) → Follows comes_to P → (others : List Seat) (before after : List (Seat × W))
    → AreEachDone comes_to before after → (n : ℕ) (work : W) → slice_get (with_each_behind (λ one. one.1) [] after) n ≡ Some work → HasSeat P (with_each_behind (λ one. one.0) others after) work
each_has comes_to P follows others before [] each n work e = cc
each_has comes_to P follows others [] (new ∷ after) each n work e = let count = each.count in absurd (omega (arith, count))
each_has {W} comes_to P follows others (old ∷ before) (new ∷ after) each n work e =
    let count = each.count in
    let is = each.each 0 old new refl refl in
    let seats : List Seat = with_each_behind (λ one. one.0) others after in
    let works : List W = with_each_behind (λ one. one.1) [] after in
    let rest : AreEachDone comes_to before after = record { count = omega (arith, count); each = λ k. each.each (suc k) } in
    all_pushed (HasSeat P (seats ++ new.0 ∷ [])) works new.1
    (λ k one at. has_still P seats new.0 one (each_has comes_to P follows others before after rest k one at))
    (length seats, new.0, behind_others seats new.0, follows old.1 old.0 new.1 is.left new.0 is.does is.on) n work e

-- so of each work that was done
pub all_have : {W : Type 0} {comes_to : W → Seat → W → Seat → Type 0} {old new : List Seat} {given done : List W} → AreDone comes_to old new given done
    → (P : W → Seat → Type 0) → Follows comes_to P → (n : ℕ) (work : W) → slice_get done n ≡ Some work → HasSeat P new work
all_have {W} {comes_to} are P follows n work e =
    subst (λ seats. HasSeat P seats work) (sym are.seats_after)
    (each_has comes_to P follows are.others are.before are.after are.each n work (subst (λ works. slice_get works n ≡ Some work) are.works_after e))
