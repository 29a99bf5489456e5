-- A seat that was taken out of its slot for a call.
use Rattle.std.specs.Prelude.{◌≡◌, ◌<◌, ◌∷◌, [], ℕ, List, Some}
use Rattle.call_log.specs.declared.log.Authors.{Authors}
use Rattle.call_log.specs.declared.log.Deed.TheVariants.{Began}
use Rattle.call_log.specs.declared.log.Event.{Event}
use Rattle.call_log.specs.Logs.{GoesOn, IsLog, WritesAs, WroteNoMore, cell_of, home}
use Rattle.call_log.specs.Rule.{knows}
use Rattle.call_log.specs.Steps.{event}
use Rattle.running_tree.specs.Seats.{Seat}
use Rattle.bw_tree_c.specs.Handles.{HasNothingOut, HasSeenLog, IsCallOn, opened_in}
use Rattle.bw_tree_c.specs.Receipts.{SeatHand}
use Rattle.bw_tree_c.specs.Seats.{IsLater}
use Rattle.bw_tree_c.specs.Slots.{IsPutBack, seat_in}
use Rattle.bw_tree_c.specs.declared.handle.slots.Inside.{Inside}
use Rattle.bw_tree_c.specs.declared.handle.slots.Inside.TheVariants.{Nothing}
use Rattle.bw_tree_c.specs.declared.receipt.Receipt.{Receipt}
use Rattle.bw_tree_c.specs.declared.handle.shared.Shared.{Shared}

-- The hand is of this handle's log, and has what the receipt has, if that is of this log too.
pub record HasObserved (shared : Shared) (since : Receipt) (hand : SeatHand) : Type 0 where
  pub table : hand.table_id ≡ shared.table.shared.table_id
  pub none : hand.me.1 ≡ []
  pub sees : (authors : Authors) (seen : List (Event Inside)) → HasSeenLog shared authors seen since → hand.me.0 ≡ knows authors (opened_in shared) seen

-- The hand took out the slot of this number, in which this seat was, and has nothing in it now; its first author wrote so, behind all that the receipt had seen, and its
-- authors wrote nothing else.
pub record HasTakenOut (shared : Shared) (number : ℕ) (since : Receipt) (hand : SeatHand) (seat : Seat) : Type 0 where
  pub below : number < shared.limits.actors
  pub authors : Authors
  pub before : List (Event Inside)
  pub log : List (Event Inside)
  pub author : ℕ
  pub old : Inside
  pub had : HasSeenLog shared authors before since
  pub nothing : HasNothingOut (opened_in shared) authors before
  pub writes : WritesAs authors author
  pub table : hand.table_id ≡ shared.table.shared.table_id
  pub me : hand.me ≡ (knows authors (opened_in shared) (event author (Began number) ∷ log), (number, Nothing) ∷ [])
  pub legal : IsLog IsPutBack (opened_in shared) (event author (Began number) ∷ log)
  pub on : GoesOn log before
  pub only : WroteNoMore authors before log
  pub at : cell_of (opened_in shared) log number ≡ home old
  pub found : seat_in old ≡ Some seat

-- It was taken out with this receipt, and the seat went on to this one.
pub record CanFinish (shared : Shared) (number : ℕ) (hand : SeatHand) (seat : Seat) : Type 0 where
  pub since : Receipt
  pub first : Seat
  pub taken : HasTakenOut shared number since hand first
  pub later : IsLater first seat

-- The seat was put back, and the call is in the log.
abbrev pub IsFinished : Shared → ℕ → SeatHand → Seat → Receipt → Type 0
IsFinished shared number hand seat it = (since : Receipt) (first : Seat) → HasTakenOut shared number since hand first → IsLater first seat
    → IsCallOn shared number since it (λ before after. (before ≡ first) × (after ≡ seat))
