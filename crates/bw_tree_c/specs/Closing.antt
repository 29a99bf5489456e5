-- What a call that closes a tree hands over, why it is refused, and how far the handle is.
use Rattle.std.specs.Prelude.{◌≡◌, ◌≢◌, ◌<◌, ◌⊎◌, ◌∷◌, [], ℕ, IsSome, List, None, Option, Some, length, ⊤}
use Rattle.call_log.specs.declared.log.Deed.{Deed}
use Rattle.call_log.specs.declared.log.Deed.TheVariants.{Began, Closed, Emptied, Ended}
use Rattle.call_log.specs.declared.log.Event.{Event}
use Rattle.call_log.specs.Logs.{GoesOn, cell_of, home, out, stage_of}
use Rattle.call_log.specs.Steps.{event}
use Rattle.running_tree.specs.Seats.{Seat, unfinished_command}
use Rattle.bw_tree_c.specs.Handles.{HasWritten, opened_in}
use Rattle.bw_tree_c.specs.Shown.{ShowFirst}
use Rattle.bw_tree_c.specs.Slots.{LeavesPairs, seat_in, seat_of}
use Rattle.bw_tree_c.specs.declared.c_types.Pair.{Pair}
use Rattle.bw_tree_c.specs.declared.handle.slots.Inside.{Inside}
use Rattle.bw_tree_c.specs.declared.handle.slots.Inside.TheVariants.{Nothing, Pairs, Whole}
use Rattle.bw_tree_c.specs.declared.handle.slots.Inside.TheVariants as inside
use Rattle.bw_tree_c.specs.declared.receipt.Receipt.{Receipt}
use Rattle.bw_tree_c.specs.declared.statuses.TheConstants.{NO_MEMORY, NO_ROOM, OK}
use Rattle.bw_tree_c.specs.declared.handle.shared.Shared.{Shared}

-- No call ran on a seat: each was put back as it was, if it was.
abbrev pub RunsNothing : Deed Inside → Type 0
RunsNothing (Began n) = ⊤
RunsNothing (Ended n old new) = seat_in new ≡ seat_in old
RunsNothing Closed = ⊤
RunsNothing Emptied = ⊤

-- Nothing was closed either.
abbrev pub LooksOn : Deed Inside → Type 0
LooksOn (Began n) = ⊤
LooksOn (Ended n old new) = seat_in new ≡ seat_in old
LooksOn Closed = ⊥
LooksOn Emptied = ⊥

-- The author did such deeds.
abbrev pub AreBy : ℕ → (Deed Inside → Type 0) → List (Event Inside) → Type 0
AreBy author such [] = ⊤
AreBy author such (it ∷ events) = (it.author ≡ author) × such it.deed × AreBy author such events

-- The log of the handle is as far as this, and has all that the caller had seen: 0 while the tree is open, 1 once it is closed and what it left waits, and 2 once nothing
-- waits. Nothing was written.
pub record IsAtStage (shared : Shared) (far : ℕ → Type 0) (since it : Receipt) : Type 0 where
  pub author : ℕ
  pub written : HasWritten shared author [] since it
  pub stage : far (stage_of written.after)

-- This call wrote into the log that nothing waits any more, behind all that the caller had seen, and ran no call on a seat. Nothing comes after that, so no two calls do.
pub record IsClosedBy (shared : Shared) (since it : Receipt) : Type 0 where
  pub author : ℕ
  pub mine : List (Event Inside)
  pub written : HasWritten shared author (event author Emptied ∷ mine) since it
  pub deeds : AreBy author RunsNothing mine
  pub rest : List (Event Inside)
  pub last : written.after ≡ event author Emptied ∷ rest

abbrev pub HasClosed : Option Shared → Receipt → Receipt → Type 0
HasClosed None since it = ⊥
HasClosed (Some shared) since it = IsClosedBy shared since it

-- It did, and these are all pairs that the tree left, in order, so many: it was closed with the seats that the log has, as the last calls on them left them.
pub record HasHanded (shared : Shared) (since it : Receipt) (told : ℕ) (written : List Pair) : Type 0 where
  pub closed : IsClosedBy shared since it
  pub pairs : List (List ℕ × List ℕ)
  pub left : LeavesPairs (opened_in shared) closed.written.after pairs
  pub count : told ≡ length pairs
  pub shows : ShowFirst (length pairs) pairs written

abbrev pub HandsOver : Option Shared → Receipt → Receipt → ℕ → List Pair → Type 0
HandsOver None since it told written = ⊥
HandsOver (Some shared) since it told written = HasHanded shared since it told written

abbrev pub HasPairs : Inside → List (List ℕ × List ℕ) → Type 0
HasPairs Nothing pairs = ⊥
HasPairs (inside.Seat place) pairs = ⊥
HasPairs (Pairs left) pairs = left.items ≡ pairs
HasPairs (Whole whole) pairs = ⊥

-- The tree is closed, and left these pairs, so many, more than there is room for; they wait in the last slot. No call ran on a seat.
pub record KeepsPairs (shared : Shared) (since it : Receipt) (room told : ℕ) : Type 0 where
  pub author : ℕ
  pub mine : List (Event Inside)
  pub written : HasWritten shared author mine since it
  pub deeds : AreBy author RunsNothing mine
  pub stage : stage_of written.after ≡ 1
  pub kept : Inside
  pub waits : cell_of (opened_in shared) written.after shared.limits.actors ≡ home kept
  pub pairs : List (List ℕ × List ℕ)
  pub are : HasPairs kept pairs
  pub left : LeavesPairs (opened_in shared) written.after pairs
  pub count : told ≡ length pairs
  pub more : room < length pairs

abbrev pub HasMore : Option Shared → Receipt → Receipt → ℕ → ℕ → Type 0
HasMore None since it room told = ⊥
HasMore (Some shared) since it room told = KeepsPairs shared since it room told

-- the statuses of a closed tree
abbrev pub TellsPairs : ℕ → Type 0
TellsPairs status = (status ≡ OK) ⊎ (status ≡ NO_ROOM) ⊎ (status ≡ NO_MEMORY)

-- A closing was refused for this cause, which a log had between what the caller had seen and what the receipt has: it put all back that it took out.
pub record IsRefusedFor (shared : Shared) (cause : ℕ → List (Event Inside) → Type 0) (since it : Receipt) : Type 0 where
  pub author : ℕ
  pub mine : List (Event Inside)
  pub written : HasWritten shared author mine since it
  pub deeds : AreBy author LooksOn mine
  pub log : List (Event Inside)
  pub from : GoesOn log written.before
  pub upto : GoesOn written.after log
  pub why : cause author log

-- A slot was out with another author, and something waited, or the tree was open.
pub record IsOutElsewhere (opened : List Inside) (author : ℕ) (log : List (Event Inside)) : Type 0 where
  pub n : ℕ
  pub by : ℕ
  pub x : Inside
  pub away : cell_of opened log n ≡ out by x
  pub another : by ≢ author
  pub stage : stage_of log < 2

-- A seat had an unfinished operation, and the tree was open.
pub record HasUnfinished (opened : List Inside) (log : List (Event Inside)) : Type 0 where
  pub n : ℕ
  pub seat : Seat
  pub at : seat_of (cell_of opened log n) ≡ Some seat
  pub busy : IsSome (unfinished_command seat)
  pub stage : stage_of log ≡ 0

abbrev pub IsBusy : Option Shared → Receipt → Receipt → Type 0
IsBusy None since it = ⊥
IsBusy (Some shared) since it = IsRefusedFor shared (IsOutElsewhere (opened_in shared)) since it

abbrev pub IsUnfinished : Option Shared → Receipt → Receipt → Type 0
IsUnfinished None since it = ⊥
IsUnfinished (Some shared) since it = IsRefusedFor shared (λ author log. HasUnfinished (opened_in shared) log) since it

-- The tree was never opened; or it is closed, and nothing waits.
abbrev pub IsClosed : Option Shared → Receipt → Receipt → Type 0
IsClosed None since it = it ≡ since
IsClosed (Some shared) since it = IsAtStage shared (λ stage. stage ≡ 2) since it

-- Something is at home in the last slot: nothing, and the tree is open; or what waits of a closed one, as the tree with its seats. No call ran on a seat.
pub record IsHeld (shared : Shared) (since it : Receipt) : Type 0 where
  pub author : ℕ
  pub mine : List (Event Inside)
  pub written : HasWritten shared author mine since it
  pub deeds : AreBy author RunsNothing mine
  pub kept : Inside
  pub waits : cell_of (opened_in shared) written.after shared.limits.actors ≡ home kept

abbrev pub HasNoMemory : Option Shared → Receipt → Receipt → Type 0
HasNoMemory None since it = ⊥
HasNoMemory (Some shared) since it = IsHeld shared since it

-- The handle keeps no tree, or one that is closed and of which nothing waits.
abbrev pub IsVacant : Option Shared → Receipt → Receipt → Type 0
IsVacant kept since it = IsClosed kept since it

-- The handle keeps an open tree, or one whose pairs wait.
abbrev pub IsInUse : Option Shared → Receipt → Receipt → Type 0
IsInUse None since it = ⊥
IsInUse (Some shared) since it = IsRefusedFor shared (λ author log. stage_of log < 2) since it
