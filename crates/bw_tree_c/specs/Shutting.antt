-- A closing, half way: what it has out, and what it wrote.
use Rattle.std.specs.Prelude.{◌≡◌, ◌+◌, ◌*◌, ◌<◌, ◌≤◌, ◌⊎◌, ◌++◌, ◌∷◌, [], ℕ, IsSome, List, None, Some, length, ⊤}
use Rattle.std.specs.Vec.{vec_capacity}
use Rattle.atomic_table.specs.Table.{rest}
use Rattle.call_log.specs.declared.log.Deed.{Deed}
use Rattle.call_log.specs.declared.log.Event.{Event}
use Rattle.call_log.specs.Logs.{GoesOn, HasAuthor, IsLog, WroteNoMore, cell_of, home, out, stage_of}
use Rattle.call_log.specs.Rule.{knows}
use Rattle.tree_limits.specs.declared.limits.Limits.{Limits}
use Rattle.running_tree.specs.Seats.{Seat, unfinished_command}
use Rattle.bw_tree_c.specs.Closing.{AreBy, HasUnfinished, IsBusy, IsClosed, IsClosedBy, IsInUse, IsOutElsewhere, LooksOn, RunsNothing}
use Rattle.bw_tree_c.specs.Handles.{HasWritten, MayCall, opened_in}
use Rattle.bw_tree_c.specs.Receipts.{SeatHand}
use Rattle.bw_tree_c.specs.Slots.{IsOutForGood, IsPutBack, WaitsFrom, seat_in, seat_of}
use Rattle.bw_tree_c.specs.declared.closing.whole.Whole.{Whole}
use Rattle.bw_tree_c.specs.declared.handle.shared.Shared.{Shared}
use Rattle.bw_tree_c.specs.declared.handle.slots.Inside.{Inside}
use Rattle.bw_tree_c.specs.declared.handle.slots.Inside.TheVariants as inside
use Rattle.bw_tree_c.specs.declared.receipt.Receipt.{Receipt}
use Rattle.bw_tree_c.specs.declared.receipt.Told.{Told}
use Rattle.bw_tree_c.specs.declared.refusal.Refusal.{Refusal}
use Rattle.bw_tree_c.specs.declared.refusal.Refusal.TheVariants.{Busy, Unfinished}
use Rattle.bw_tree_c.specs.declared.statuses.TheConstants.{BUSY, CLOSED}

-- The author has the slot out, and in it is what was there; in the last one is nothing.
pub record IsCarried (opened : List Inside) (log : List (Event Inside)) (author n : ℕ) (now : Inside) : Type 0 where
  pub x : Inside
  pub away : cell_of opened log n ≡ out author x
  pub same : n + 1 < length opened → now ≡ x
  pub empty : n + 1 ≡ length opened → now ≡ inside.Nothing

-- These are the slots from this number on, in order.
abbrev pub Carries : List Inside → List (Event Inside) → ℕ → ℕ → List (ℕ × Inside) → Type 0
Carries opened log author n [] = n ≡ length opened
Carries opened log author n (it ∷ more) = (it.0 ≡ n) × IsCarried opened log author n it.1 × Carries opened log author (n + 1) more

-- The closing with this receipt wrote these events, and has these slots out, from this number on: the last one had this in it. The tree is as far as that.
pub record IsClosingAt (shared : Shared) (since : Receipt) (may : MayCall shared since) (from far : ℕ) (such : Deed Inside → Type 0) (last : Inside) (log mine : List (Event Inside))
    (carried : List (ℕ × Inside)) : Type 0 where
  pub legal : IsLog IsPutBack (opened_in shared) log
  pub on : GoesOn log may.log
  pub only : WroteNoMore may.authors (mine ++ may.log) log
  pub did : AreBy may.author such mine
  pub stage : stage_of log ≡ far
  pub near : far < 2
  pub carries : Carries (opened_in shared) log may.author from carried
  pub last_out : cell_of (opened_in shared) log shared.limits.actors ≡ out may.author last
  pub no_seat : seat_in last ≡ None
  pub below : (a n : ℕ) (x : Inside) → HasAuthor may.authors a → cell_of (opened_in shared) log n ≡ out a x → (from ≤ n) ⊎ IsOutForGood (opened_in shared) log n

-- The hand is that of such a closing.
pub record IsInside (shared : Shared) (since : Receipt) (may : MayCall shared since) (from far : ℕ) (such : Deed Inside → Type 0) (last : Inside) (hand : SeatHand) : Type 0 where
  pub log : List (Event Inside)
  pub mine : List (Event Inside)
  pub carried : List (ℕ × Inside)
  pub table : hand.table_id ≡ shared.table.shared.table_id
  pub me : hand.me ≡ (knows may.authors (opened_in shared) log, carried)
  pub at : IsClosingAt shared since may from far such last log mine carried

-- It goes on to this.
abbrev pub GoesTo : Shared → SeatHand → ℕ → ℕ → (Deed Inside → Type 0) → SeatHand → ℕ → ℕ → (Deed Inside → Type 0) → Type 0
GoesTo shared old from far such new from' far' such' = (since : Receipt) (may : MayCall shared since) (last : Inside) → IsInside shared since may from far such last old
    → IsInside shared since may from' far' such' last new

-- There is such a closing.
abbrev pub IsClosing : Shared → ℕ → ℕ → (Deed Inside → Type 0) → SeatHand → Type 0
IsClosing shared from far such hand = (since : Receipt) × (may : MayCall shared since) × (last : Inside) × IsInside shared since may from far such last hand

-- why the slots of seats can't be taken out
abbrev pub WhyNot : List Inside → Refusal → ℕ → List (Event Inside) → Type 0
WhyNot opened refusal author log = ((refusal ≡ Busy) × IsOutElsewhere opened author log) ⊎ ((refusal ≡ Unfinished) × HasUnfinished opened log)

-- The slots of seats weren't taken out for this cause, and are back.
pub record HasStoppedClosing (shared : Shared) (since : Receipt) (may : MayCall shared since) (from : ℕ) (such : Deed Inside → Type 0) (last : Inside)
    (refusal : Refusal) (hand : SeatHand) : Type 0 where
  pub mid : IsInside shared since may from 0 such last hand
  pub log : List (Event Inside)
  pub since_then : GoesOn log may.log
  pub upto : GoesOn mid.log log
  pub why : WhyNot (opened_in shared) refusal may.author log

-- The slots before this number have seats with no operation, as the log that the hand has seen has them.
abbrev pub AreIdleBelow : Shared → ℕ → SeatHand → Type 0
AreIdleBelow shared count hand = (n : ℕ) (seat : Seat) → n < count → seat_of (cell_of (opened_in shared) hand.me.0.log n) ≡ Some seat → unfinished_command seat ≡ None

-- None of these slots has a seat with an operation.
abbrev pub AreAllIdle : List (ℕ × Inside) → Type 0
AreAllIdle [] = ⊤
AreAllIdle (it ∷ more) = ((seat : Seat) → seat_in it.1 ≡ Some seat → unfinished_command seat ≡ None) × AreAllIdle more

-- The closing stopped for this cause: what it took since then is back.
abbrev pub IsStoppedFor : Shared → SeatHand → ℕ → Refusal → SeatHand → Type 0
IsStoppedFor shared old count refusal new = (since : Receipt) (may : MayCall shared since) (last : Inside) → IsInside shared since may count 0 LooksOn last old
    → HasStoppedClosing shared since may count LooksOn last refusal new

-- The hand took the last slot, and this was in it: nothing, and the tree is open; or what waits.
pub record HasBegunAs (shared : Shared) (since : Receipt) (may : MayCall shared since) (x : Inside) (hand : SeatHand) : Type 0 where
  pub far : ℕ
  pub closing : IsInside shared since may shared.limits.actors far LooksOn x hand
  pub what : ((far ≡ 0) × (x ≡ inside.Nothing)) ⊎ ((far ≡ 1) × WaitsFrom (opened_in shared) hand.me.0.log x)

abbrev pub HasBegunClosing : Shared → Receipt → Inside → SeatHand → Type 0
HasBegunClosing shared since x hand = (may : MayCall shared since) → HasBegunAs shared since may x hand

-- The last slot was out: another closing runs, or nothing waits any more.
abbrev pub IsRefusedClosing : Shared → Receipt → Told → Type 0
IsRefusedClosing shared since told = ((told.status ≡ BUSY) × IsBusy (Some shared) since told.receipt × IsInUse (Some shared) since told.receipt)
    ⊎ ((told.status ≡ CLOSED) × IsClosed (Some shared) since told.receipt)

-- The slot of this number was taken last.
abbrev pub IsTakenLast : ℕ → SeatHand → Type 0
IsTakenLast slot hand = (y : Inside) × (hand.me.1 ≡ (slot, y) ∷ rest hand.me.1)

abbrev pub IsIdleIn : ℕ → SeatHand → Type 0
IsIdleIn slot hand = (y : Inside) (seat : Seat) → hand.me.1 ≡ (slot, y) ∷ rest hand.me.1 → seat_in y ≡ Some seat → unfinished_command seat ≡ None

abbrev pub IsBusyIn : ℕ → SeatHand → Type 0
IsBusyIn slot hand = (y : Inside) × (seat : Seat) × (hand.me.1 ≡ (slot, y) ∷ rest hand.me.1) × (seat_in y ≡ Some seat) × IsSome (unfinished_command seat)

-- There is room for the seats of a tree of these limits, and for its pairs.
pub record MayGather (limits : Limits) (whole : Whole) : Type 0 where
  pub none : whole.seats.items ≡ []
  pub seats : limits.actors ≤ vec_capacity whole.seats
  pub empty : whole.room.items ≡ []
  pub room : 24 * limits.pids ≤ vec_capacity whole.room

-- The last slot is left for good, and the closing is done.
pub record IsEmptiedAs (shared : Shared) (since : Receipt) (hand : SeatHand) (it : Receipt) : Type 0 where
  pub closed : IsClosedBy shared since it
  pub upto : GoesOn closed.written.after hand.me.0.log

abbrev pub IsEmptied : Shared → SeatHand → Receipt → Type 0
IsEmptied shared hand it = (since : Receipt) (may : MayCall shared since) (last : Inside) → IsInside shared since may shared.limits.actors 1 RunsNothing last hand → IsEmptiedAs shared since hand it

-- This is in the last slot again.
pub record IsKeptAs (shared : Shared) (since : Receipt) (such : Deed Inside → Type 0) (hand : SeatHand) (y : Inside) (it : Receipt) : Type 0 where
  pub author : ℕ
  pub mine : List (Event Inside)
  pub written : HasWritten shared author mine since it
  pub deeds : AreBy author such mine
  pub waits : cell_of (opened_in shared) written.after shared.limits.actors ≡ home y
  pub stage : stage_of written.after ≡ stage_of hand.me.0.log
  pub upto : GoesOn written.after hand.me.0.log

abbrev pub IsBackInside : Shared → (Deed Inside → Type 0) → SeatHand → Inside → Receipt → Type 0
IsBackInside shared such hand y it = (since : Receipt) (may : MayCall shared since) (last : Inside) → IsInside shared since may shared.limits.actors 1 such last hand
    → IsKeptAs shared since such hand y it

abbrev pub IsLetGo : Shared → SeatHand → Receipt → Type 0
IsLetGo shared hand it = (since : Receipt) (may : MayCall shared since) → IsInside shared since may shared.limits.actors 0 LooksOn inside.Nothing hand
    → IsKeptAs shared since LooksOn hand inside.Nothing it

-- The tree is open, and its last slot is out, for a closing.
abbrev pub IsOpenClosing : Shared → SeatHand → Type 0
IsOpenClosing shared hand = (since : Receipt) × (may : MayCall shared since) × IsInside shared since may shared.limits.actors 0 LooksOn inside.Nothing hand

-- Whoever began so came to this.
abbrev pub FromOpen : Shared → SeatHand → (Receipt → Type 0) → Type 0
FromOpen shared hand comes = (since : Receipt) (may : MayCall shared since) → IsInside shared since may shared.limits.actors 0 LooksOn inside.Nothing hand → comes since

abbrev pub FromClosed : Shared → SeatHand → (Receipt → Type 0) → Type 0
FromClosed shared hand comes = (since : Receipt) (may : MayCall shared since) (last : Inside) → IsInside shared since may shared.limits.actors 1 RunsNothing last hand → comes since
