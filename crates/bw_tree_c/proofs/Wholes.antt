-- A closed tree with all its seats, whose pairs are listed.
use Rattle.std.proofs.Common.{◌≡◌, ◌*◌, ◌<◌, ◌≤◌, ◌∷◌, ◌∙◌, ℕ, List, [], Some, ap, arith, length, refl, subst, sym}
use Rattle.std.specs.Prelude.{slice_get}
use Rattle.std.specs.Vec.{vec_capacity}
use Rattle.running_tree.specs.Seats.{Seat}
use Rattle.running_tree.specs.Trees.{AreClosed, AreSeatsOf, Tree}
use Rattle.bw_tree_c.specs.Left.{ArePairsLeft}
use Rattle.bw_tree_c.specs.Slots.{HasAllIn}
use Rattle.bw_tree_c.specs.declared.closing.whole.Whole.{Whole}

first_of : (seats : List Seat) → 0 < length seats → (seat : Seat) × (slice_get seats 0 ≡ Some seat)
first_of [] some = absurd (omega (arith, some))
first_of (seat ∷ seats) some = (seat, refl)

-- The tree that comes out of it has the limits of its seats.
module _ (whole : Whole) (all : HasAllIn whole) (tree : Tree) (own : AreSeatsOf tree whole.seats.items) where
  same_limits : tree.limits ≡ all.limits
  same_limits = let first = first_of whole.seats.items all.some in sym (own 0 first.0 first.1).limits ∙ all.one.each 0 first.0 first.1

  pub all_there : tree.limits.actors ≤ length whole.seats.items
  all_there = let count = all.one.count in let same = ap (λ l. l.actors) same_limits in omega (arith, count, same)

  pub room_there : 24 * tree.limits.pids ≤ vec_capacity whole.room
  room_there = subst (λ l. 24 * l.pids ≤ vec_capacity whole.room) (sym same_limits) all.room

  pub pairs_left : (pairs : List (List ℕ × List ℕ)) → AreClosed tree.limits whole.seats.items pairs → ArePairsLeft whole.seats.items pairs
  pairs_left pairs closed = record {
    limits = all.limits;
    each = all.one.each;
    idle = all.idle;
    closed = subst (λ l. AreClosed l whole.seats.items pairs) same_limits closed;
  }
