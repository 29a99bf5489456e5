-- What a tree leaves that is closed with all its seats.
use Rattle.std.proofs.Common.{◌≡◌, ◌≤◌, ℕ, zero, suc, List, [], ◌∷◌, length, Some, refl, subst, arith}
use Rattle.running_tree.proofs.Words.{slice_get, Limits, Extends, IsListing, Part, Idle, Each, Running, part, ClosedTree, IsClosedWith, IsLeftBy, ListsAll, IsLawfulRun, IsOneHistory}
use Rattle.running_tree.proofs.Words.{IsSeenRun, Seat}
use Rattle.atomic_table.specs.Table.{Final, Seen}
use Rattle.traces.specs.declared.trace.Entry.{Entry}
use Rattle.table_rule.specs.Closing.{AllStand, AreLeft, LeavesWords}
use Rattle.running_tree.specs.Trees.{AreClosed, HasPartsOf}

each_weaker : (P Q : Part → Type 0) → ((p : Part) → P p → Q p) → (parts : List Part) → Each P parts → Each Q parts
each_weaker P Q f [] each = tt
each_weaker P Q f (p ∷ parts) each = (f p each.0, each_weaker P Q f parts each.1)

each_get : (P : Part → Type 0) (parts : List Part) (n : ℕ) (p : Part) → Each P parts → slice_get parts n ≡ Some p → P p
each_get P [] n p each e = cc
each_get P (q ∷ parts) zero p each e = let same : q ≡ p = cc in subst P same each.0
each_get P (q ∷ parts) (suc n) p each e = each_get P parts n p each.1 e

module _ (limits key : Limits) (own : key ≡ limits) (spells : (limits : Limits) → LeavesWords limits (IsLawfulRun limits)) (seats : List Seat)
    (parts : List Part) (id : ℕ) (words : List ℕ) (homes : List (Unit {0}))
    (many : limits.actors ≤ length seats) (has : HasPartsOf limits seats parts) (final : Final (Seen (Running key (IsLawfulRun key)) id parts) words homes) where
  all_stand : AllStand limits parts
  all_stand = record { all = omega (arith, many, has.count); idle = each_weaker _ _ (λ p at. at.0) parts has.idle }

  left : AreLeft limits (IsLawfulRun limits) parts words
  left = spells limits id parts words homes all_stand (subst (λ (l : Limits). Final (Seen (Running l (IsLawfulRun l)) id parts) words homes) own final)

  abbrev closed : ClosedTree
  closed = record { limits = limits; words = words }

  is_left : IsLeftBy closed left.run
  is_left = record { seen = record { lawful = left.legal; begins = left.begins }; keeps = record { are = left.are; kept = left.kept } }

  -- the run that has left the words
  pub by_run : (run : List Entry) × IsLeftBy closed run
  by_run = (left.run, is_left)

  pub closes : ((limits : Limits) (run : List Entry) → IsSeenRun limits run → IsOneHistory limits run) → IsClosedWith limits seats closed
  closes history = record {
    limits = refl;
    run = left.run;
    left = is_left;
    history = history limits left.run is_left.seen;
    extends = λ n seat at. let (m, there) = has.each n seat at in each_get (λ p. Extends p.actor p.seen left.run) parts m (part limits seat.actor seat.seen Idle) left.extends there;
  }

-- a tree is closed whose pairs are listed
pub are_closed : (limits : Limits) (seats : List Seat) (tree : ClosedTree) (pairs : List (List ℕ × List ℕ)) → IsClosedWith limits seats tree → ListsAll tree pairs → AreClosed limits seats pairs
are_closed limits seats tree pairs is lists = record {
  run = is.run;
  history = is.history;
  extends = is.extends;
  listing = subst (λ (l : Limits). IsListing l is.run pairs) is.limits (lists is.run is.left);
}
