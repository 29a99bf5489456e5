-- Cursors that go down, and what asking one for its next page comes to.
use Rattle.std.specs.Prelude.{◌≡◌, ◌+◌, ◌<◌, ◌≤◌, ◌++◌, ◌-◌, ◌^◌, ◌⊎◌, ℕ, Bool, true, false, List, [], Option, None, Some, if◌then◌else◌, length, map, reverse}
use Rattle.bw_model.specs.NextKeys.{key_after}
use Rattle.bw_model.specs.declared.command.Command.{Command}
use Rattle.bw_model.specs.declared.command.Command.TheVariants as command
use Rattle.bw_model.specs.declared.command.Reply.{Reply}
use Rattle.traces.specs.declared.trace.Entry.{Entry}
use Rattle.traces.specs.declared.trace.Turn.{Turn}
use Rattle.tree_limits.specs.declared.limits.Limits.{Limits}
use Rattle.linearization.specs.Linearized.{IsLinearized}
use Rattle.running_tree.specs.Runs.{StartsWith}
use Rattle.running_tree.specs.Seats.{IsSame, Seat}
use Rattle.running_tree.specs.declared.called.Called.TheVariants as called
use Rattle.walks.specs.BackPages.{BackPage, IsBackOf, begin_above}
use Rattle.walks.specs.BackWalks.{IsBackWalk, TellKeys, pairs_upward}
use Rattle.walks.specs.Cursors.{IsRunOn, WasIdle, commands_in}
use Rattle.walks.specs.declared.cursor.Walk.{Walk}
use Rattle.walks.specs.declared.cursor.Walk.TheVariants as walk
use Rattle.walks.specs.declared.scan.Scanned.{Scanned}
use Rattle.walks.specs.declared.scan.Scanned.TheVariants as scanned

-- a cursor that goes down: the key up to which its next page goes, if it isn't at its end; its lowest key; whether a seat has an operation of
-- its; and the pairs that it shows, those of the page before, in ascending order
pub record BackCursor : Type 0 where
  pub at : Option (List ℕ)
  pub low : List ℕ
  pub asked : Bool
  pub pairs : List (List ℕ × List ℕ)

-- the command of a page backward from where a cursor stands
abbrev pub page_upto : Option (List ℕ) → Option Command
page_upto None = None
page_upto (Some key) = Some (command.Back key)

-- the command that a cursor has on its seat, if it has one
abbrev pub back_command : BackCursor → Option Command
back_command cursor = if cursor.asked then page_upto cursor.at else None

-- The page was shown that goes up to where the cursor stood: its operation was done with the seat's last step, and was begun after all that the
-- seat had seen while it was idle. The cursor stands where the page says to go on.
pub record HasShownBack (old : BackCursor) (seat : Seat) (budget : ℕ) (new : BackCursor) (later : Seat) : Type 0 where
  pub page : BackPage
  pub upto : old.at ≡ Some page.upto
  pub is : IsBackOf later.seen old.low page
  pub own : page.actor ≡ later.actor
  pub last : length later.seen ≡ page.done + 1
  pub since : (early : List Entry) → WasIdle seat early → length early ≤ page.begun
  pub reply : Reply
  pub run : IsRunOn old.asked seat (command.Back page.upto) budget (called.Done reply) later
  pub stands : new ≡ record { at = page.next; low = old.low; asked = false; pairs = page.pairs }

-- The operation of the page that goes up to where the cursor stood is unfinished in the seat.
pub record HasAskedBack (old : BackCursor) (seat : Seat) (budget : ℕ) (new : BackCursor) (later : Seat) : Type 0 where
  pub upto : List ℕ
  pub at : old.at ≡ Some upto
  pub run : IsRunOn old.asked seat (command.Back upto) budget called.Spent later
  pub stands : new ≡ record old { asked = true }

-- What asking a cursor for its next page came to. At its end nothing is done.
abbrev pub IsNextBack : BackCursor → Seat → ℕ → Walk → BackCursor → Seat → Type 0
IsNextBack old seat budget walk.Page new later = HasShownBack old seat budget new later
IsNextBack old seat budget walk.Spent new later = HasAskedBack old seat budget new later
IsNextBack old seat budget walk.End new later = (old.at ≡ None) × (new ≡ old) × (later ≡ seat)

-- The seat was called with the commands that it had been called with, and then with commands of pages backward alone.
abbrev pub CallsBackPages : Seat → Seat → Type 0
CallsBackPages seat later = (keys : List (List ℕ)) × (commands_in later ≡ commands_in seat ++ map command.Back keys)

-- A list of pairs grew, in the order of the walk, by what pages show that follow one another in one walk down, from where the cursor stood to where
-- it stands. After whatever the seat had seen while it was idle the walk began, and it was over before something that the seat has seen while it
-- was idle. Nothing else was called on the seat.
pub record HasWalkedBack (old : BackCursor) (seat : Seat) (before after : List (List ℕ × List ℕ)) (new : BackCursor) (later : Seat) : Type 0 where
  pub pages : List BackPage
  pub shown : after ≡ before ++ reverse (pairs_upward pages)
  pub walk : (early : List Entry) → WasIdle seat early → (late : List Entry) × WasIdle later late
      × IsBackWalk later.seen old.low old.at (length early) pages new.at (length late)
  pub low : new.low ≡ old.low
  pub grows : StartsWith later.seen seat.seen
  pub alone : CallsBackPages seat later

-- What was added to a list, read from its end, tells of the map, by whatever points the run is linearized: from after whatever the seat had seen
-- while it was idle to before something that it has seen while it was idle.
pub record HasToldBack (old : BackCursor) (seat : Seat) (before after : List (List ℕ × List ℕ)) (new : BackCursor) (later : Seat) : Type 0 where
  pub upward : List (List ℕ × List ℕ)
  pub added : after ≡ before ++ reverse upward
  pub tells : (upto : List ℕ) (early : List Entry) → old.at ≡ Some upto → WasIdle seat early → (late : List Entry) × WasIdle later late
      × ((limits : Limits) (turns : List Turn) (linear : IsLinearized limits turns later.seen)
      → TellKeys later.seen linear.points (length early) (length late) (begin_above old.low new.at) (Some (key_after upto)) upward)

-- what an answer adds to a list, in the order of the walk
abbrev pub added_back : Walk → BackCursor → List (List ℕ × List ℕ)
added_back walk.Page cursor = reverse cursor.pairs
added_back walk.Spent cursor = []
added_back walk.End cursor = []

-- The budget of one page was spent on the seat, after all that it had seen at first.
pub record IsSpentBackAt (first : Seat) (budget : ℕ) (new : BackCursor) (later : Seat) : Type 0 where
  pub old : BackCursor
  pub seat : Seat
  pub same : IsSame seat later
  pub grows : StartsWith seat.seen first.seen
  pub asked : HasAskedBack old seat budget new later

-- As many pages were shown as a scan shows at most, 2^64 - 1.
abbrev pub HasManyBack : BackCursor → Seat → List (List ℕ × List ℕ) → List (List ℕ × List ℕ) → BackCursor → Seat → Type 0
HasManyBack old seat before after new later = (walked : HasWalkedBack old seat before after new later) × (length walked.pages ≡ 2 ^ 64 - 1)

-- Why a scan stopped.
abbrev pub HasBackStopped : Scanned → BackCursor → Seat → ℕ → List (List ℕ × List ℕ) → List (List ℕ × List ℕ) → BackCursor → Seat → Type 0
HasBackStopped scanned.End old seat budget before after new later = new.at ≡ None
HasBackStopped scanned.Spent old seat budget before after new later = IsSpentBackAt seat budget new later ⊎ HasManyBack old seat before after new later

-- What seeking a pair came to: a page that has one, or the walk's end; or steps or pages were too few.
abbrev pub HasSeekStoppedBack : Walk → BackCursor → Seat → ℕ → BackCursor → Seat → Type 0
HasSeekStoppedBack walk.Page old seat budget new later = 0 < length new.pairs
HasSeekStoppedBack walk.Spent old seat budget new later = IsSpentBackAt seat budget new later ⊎ HasManyBack old seat [] [] new later
HasSeekStoppedBack walk.End old seat budget new later = new.at ≡ None
