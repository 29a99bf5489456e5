-- The seats with which a tree opens are its own, and idle.
use Rattle.std.proofs.Common.{◌≡◌, ℕ, ◌<◌, List, Some, refl, sym, subst, ◌∙◌}
use Rattle.std.specs.Prelude.{None, slice_get}
use Rattle.std.proofs.lemmas.Option.{same_Some, slice_get_within}
use Rattle.running_tree.specs.Loaded.{AreLoaded, seat_at}
use Rattle.running_tree.specs.Seats.{Seat, unfinished_command}
use Rattle.running_tree.specs.Trees.{AreFresh, AreSeatsOf, IsSeatOf, Tree, fresh_seat}
use Rattle.seats.specs.Idle.{AreIdle}

is_fresh : (tree : Tree) (seats : List Seat) → AreFresh tree seats → (n : ℕ) (seat : Seat) → slice_get seats n ≡ Some seat → fresh_seat tree n ≡ seat
is_fresh tree seats fresh n seat at =
    let below : n < tree.limits.actors = subst (λ m. n < m) fresh.count (slice_get_within seats n seat at) in
    same_Some (fresh_seat tree n) seat (sym (fresh.each n below) ∙ at)

pub fresh_own : (tree : Tree) (seats : List Seat) → AreFresh tree seats → AreSeatsOf tree seats
fresh_own tree seats fresh n seat at = subst (IsSeatOf tree) (is_fresh tree seats fresh n seat at) (record { table = refl; limits = refl })

pub fresh_idle : (tree : Tree) (seats : List Seat) → AreFresh tree seats → AreIdle seats
fresh_idle tree seats fresh n seat at = subst (λ s. unfinished_command s ≡ None) (is_fresh tree seats fresh n seat at) refl

-- so are those of a tree that opens with pairs
is_loaded : (tree : Tree) (seats : List Seat) (pairs : List (List ℕ × List ℕ)) (loaded : AreLoaded tree seats pairs) (n : ℕ) (seat : Seat)
    → slice_get seats n ≡ Some seat → seat_at tree loaded.run n ≡ seat
is_loaded tree seats pairs loaded n seat at =
    let below : n < tree.limits.actors = subst (λ m. n < m) loaded.stand.count (slice_get_within seats n seat at) in
    same_Some (seat_at tree loaded.run n) seat (sym (loaded.stand.each n below) ∙ at)

pub loaded_own : (tree : Tree) (seats : List Seat) (pairs : List (List ℕ × List ℕ)) → AreLoaded tree seats pairs → AreSeatsOf tree seats
loaded_own tree seats pairs loaded n seat at = subst (IsSeatOf tree) (is_loaded tree seats pairs loaded n seat at) (record { table = refl; limits = refl })

pub loaded_idle : (tree : Tree) (seats : List Seat) (pairs : List (List ℕ × List ℕ)) → AreLoaded tree seats pairs → AreIdle seats
loaded_idle tree seats pairs loaded n seat at = subst (λ s. unfinished_command s ≡ None) (is_loaded tree seats pairs loaded n seat at) (loaded.idle n)
