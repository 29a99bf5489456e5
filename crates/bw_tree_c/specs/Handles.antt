-- What a call finds behind a handle, and what its receipt says.
use Rattle.std.specs.Prelude.{◌≡◌, ◌⊎◌, ◌≤◌, ◌<◌, ◌++◌, ◌∷◌, [], ℕ, List, Option, Some, None, ⊤}
use Rattle.call_log.specs.declared.log.Authors.{Authors}
use Rattle.call_log.specs.declared.log.Deed.TheVariants.{Began, Ended}
use Rattle.call_log.specs.declared.log.Event.{Event}
use Rattle.call_log.specs.Logs.{GoesOn, HasAuthor, IsLog, WritesAs, WroteNoMore, cell_of, out, stage_of}
use Rattle.call_log.specs.Rule.{knows}
use Rattle.call_log.specs.Steps.{event}
use Rattle.running_tree.specs.Seats.{Seat}
use Rattle.bw_tree_c.specs.Seats.{IsLater}
use Rattle.bw_tree_c.specs.Slots.{IsOutForGood, IsPutBack, seat_in}
use Rattle.bw_tree_c.specs.declared.handle.slots.Inside.{Inside}
use Rattle.bw_tree_c.specs.declared.statuses.TheConstants.{BUSY, CLOSED, NO_SEAT}
use Rattle.bw_tree_c.specs.declared.receipt.Receipt.{Receipt}
use Rattle.bw_tree_c.specs.declared.receipt.Told.{Told}
use Rattle.bw_tree_c.specs.declared.handle.shared.Shared.{Shared}

-- what was in the slots of the handle when its tree was opened
abbrev pub opened_in : Shared → List Inside
opened_in shared = shared.table.shared.key.value.items

-- The receipt is a seat at the log of the handle: when it was made, this was done with the slots, the last first. It has these authors.
pub record HasSeenLog (shared : Shared) (authors : Authors) (log : List (Event Inside)) (it : Receipt) : Type 0 where
  pub table : it.table_id ≡ shared.table.shared.table_id
  pub view : it.views ≡ knows authors (opened_in shared) log ∷ []
  pub legal : IsLog IsPutBack (opened_in shared) log

abbrev pub IsReceipt : Option Shared → Authors → List (Event Inside) → Receipt → Type 0
IsReceipt None authors log it = ⊥
IsReceipt (Some shared) authors log it = HasSeenLog shared authors log it

-- No slot is out with one of these authors, unless for good.
abbrev pub HasNothingOut : List Inside → Authors → List (Event Inside) → Type 0
HasNothingOut opened authors log = (author n : ℕ) (x : Inside) → HasAuthor authors author → cell_of opened log n ≡ out author x → IsOutForGood opened log n

-- A call with this receipt may be written into the log of the handle: it is a seat there, and has an author. No call of its authors is under way.
pub record MayCall (shared : Shared) (it : Receipt) : Type 0 where
  pub authors : Authors
  pub log : List (Event Inside)
  pub author : ℕ
  pub seen : HasSeenLog shared authors log it
  pub writes : WritesAs authors author
  pub nothing : HasNothingOut (opened_in shared) authors log

-- A call on a handle may be so written; where it keeps no tree, nothing is.
abbrev pub MayCallOn : Option Shared → Receipt → Type 0
MayCallOn None it = ⊤
MayCallOn (Some shared) it = MayCall shared it

-- The call wrote these events into the log of the handle, the last first, as its caller's first author, behind all that the caller had seen: as the caller's authors
-- nothing else is written, and no slot is left out, unless for good.
pub record HasWritten (shared : Shared) (author : ℕ) (mine : List (Event Inside)) (since it : Receipt) : Type 0 where
  pub authors : Authors
  pub before : List (Event Inside)
  pub after : List (Event Inside)
  pub had : HasSeenLog shared authors before since
  pub has : HasSeenLog shared authors after it
  pub writes : WritesAs authors author
  pub on : GoesOn after before
  pub only : WroteNoMore authors (mine ++ before) after
  pub back : HasNothingOut (opened_in shared) authors after

-- The slot of this number was out: a call is inside the seat, or the tree is closed. Nothing was written.
pub record IsAway (shared : Shared) (number : ℕ) (since : Receipt) (told : Told) : Type 0 where
  pub below : number < shared.limits.actors
  pub author : ℕ
  pub written : HasWritten shared author [] since told.receipt
  pub by : ℕ
  pub x : Inside
  pub away : cell_of (opened_in shared) written.after number ≡ out by x
  pub why : (told.status ≡ BUSY) ⊎ ((told.status ≡ CLOSED) × (0 < stage_of written.after))

-- There is no seat of this number, and the caller's receipt is given back.
abbrev pub HasNoSeat : Shared → ℕ → Receipt → Told → Type 0
HasNoSeat shared number since told = (shared.limits.actors ≤ number) × (told.status ≡ NO_SEAT) × (told.receipt ≡ since)

-- There is no seat for a call: the tree was never opened; or there is none of this number; or its slot is out.
abbrev pub IsRefused : Option Shared → ℕ → Receipt → Told → Type 0
IsRefused None number since told = (told.status ≡ CLOSED) × (told.receipt ≡ since)
IsRefused (Some shared) number since told = HasNoSeat shared number since told ⊎ IsAway shared number since told

-- The call ran on the seat of this number, as the last call on it had left it, and the log of the handle ends with the call: it took out the slot with the seat, and
-- put it back as it then was.
pub record IsCallOn (shared : Shared) (number : ℕ) (since it : Receipt) (ran : Seat → Seat → Type 0) : Type 0 where
  pub below : number < shared.limits.actors
  pub author : ℕ
  pub old : Inside
  pub new : Inside
  pub written : HasWritten shared author (event author (Ended number old new) ∷ event author (Began number) ∷ []) since it
  pub rest : List (Event Inside)
  pub last : written.after ≡ event author (Ended number old new) ∷ rest
  pub before : Seat
  pub after : Seat
  pub found : seat_in old ≡ Some before
  pub left : seat_in new ≡ Some after
  pub later : IsLater before after
  pub runs : ran before after

abbrev pub IsOnSeat : Option Shared → ℕ → Receipt → Receipt → (Seat → Seat → Type 0) → Type 0
IsOnSeat None number since it ran = ⊥
IsOnSeat (Some shared) number since it ran = IsCallOn shared number since it ran

-- A call on a seat of a handle: it is refused, and the rest is as it was; or it runs.
abbrev pub OnSeat : Option Shared → ℕ → Receipt → Told → Type 0 → (Seat → Seat → Type 0) → Type 0
OnSeat kept number since told rest runs = (IsRefused kept number since told × rest) ⊎ IsOnSeat kept number since told.receipt runs
