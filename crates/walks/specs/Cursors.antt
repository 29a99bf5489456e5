-- Cursors, and what asking one for its next page comes to.
use Rattle.std.specs.Prelude.{◌≡◌, ◌+◌, ◌<◌, ◌≤◌, ◌++◌, ◌-◌, ◌^◌, ◌⊎◌, ℕ, Bool, true, false, List, [], Option, None, Some, if◌then◌else◌, length, map}
use Rattle.bw_model.specs.declared.command.Command.{Command}
use Rattle.bw_model.specs.declared.command.Command.TheVariants as command
use Rattle.bw_model.specs.declared.command.Reply.{Reply}
use Rattle.traces.specs.trace.Trace.{command_of}
use Rattle.traces.specs.declared.trace.Entry.{Entry}
use Rattle.traces.specs.declared.trace.Turn.{Turn}
use Rattle.tree_limits.specs.declared.limits.Limits.{Limits}
use Rattle.linearization.specs.Linearized.{IsLinearized}
use Rattle.running_tree.specs.Calls.{IsCalled, IsResumed, calls_in}
use Rattle.running_tree.specs.Runs.{StartsWith}
use Rattle.running_tree.specs.Seats.{IsSame, Seat}
use Rattle.running_tree.specs.declared.called.Called.{Called}
use Rattle.running_tree.specs.declared.called.Called.TheVariants as called
use Rattle.walks.specs.Pages.{IsPageOf, WalkedPage, end_under}
use Rattle.walks.specs.Walks.{IsWalk, TellMap, pairs_shown}
use Rattle.walks.specs.declared.cursor.Walk.{Walk}
use Rattle.walks.specs.declared.cursor.Walk.TheVariants as walk
use Rattle.walks.specs.declared.scan.Scanned.{Scanned}
use Rattle.walks.specs.declared.scan.Scanned.TheVariants as scanned

-- a cursor: the key at which it stands, if it isn't at its end; its bound, if it has one; whether a seat has an operation of its; and the
-- pairs that it shows, those of the page before
pub record Cursor : Type 0 where
  pub at : Option (List ℕ)
  pub bound : Option (List ℕ)
  pub asked : Bool
  pub pairs : List (List ℕ × List ℕ)

-- the command of a cursor page from where a cursor stands
abbrev pub page_from : Option (List ℕ) → Option Command
page_from None = None
page_from (Some key) = Some (command.Page key)

-- the command that a cursor has on its seat, if it has one
abbrev pub cursor_command : Cursor → Option Command
cursor_command cursor = if cursor.asked then page_from cursor.at else None

-- The command was called on the seat, or, where it had been asked, resumed.
abbrev pub IsRunOn : Bool → Seat → Command → ℕ → Called → Seat → Type 0
IsRunOn false seat command budget called later = IsCalled seat command budget called later
IsRunOn true seat command budget called later = IsResumed seat budget called later

-- The run is one that the actor has seen while it had no operation.
abbrev pub WasIdle : Seat → List Entry → Type 0
WasIdle seat early = StartsWith seat.seen early × (command_of early seat.actor ≡ None)

-- The page was shown that begins where the cursor stood: its operation was done with the seat's last step, and was begun after all that the
-- seat had seen while it was idle. The cursor stands where the page ends.
pub record HasShown (old : Cursor) (seat : Seat) (budget : ℕ) (new : Cursor) (later : Seat) : Type 0 where
  pub page : WalkedPage
  pub from : old.at ≡ Some page.from
  pub is : IsPageOf later.seen old.bound page
  pub own : page.actor ≡ later.actor
  pub last : length later.seen ≡ page.done + 1
  pub since : (early : List Entry) → WasIdle seat early → length early ≤ page.begun
  pub reply : Reply
  pub run : IsRunOn old.asked seat (command.Page page.from) budget (called.Done reply) later
  pub stands : new ≡ record { at = page.next; bound = old.bound; asked = false; pairs = page.pairs }

-- The operation of the page that begins where the cursor stands is unfinished in the seat.
pub record HasAsked (old : Cursor) (seat : Seat) (budget : ℕ) (new : Cursor) (later : Seat) : Type 0 where
  pub from : List ℕ
  pub at : old.at ≡ Some from
  pub run : IsRunOn old.asked seat (command.Page from) budget called.Spent later
  pub stands : new ≡ record old { asked = true }

-- What asking a cursor for its next page came to. At its end nothing is done.
abbrev pub IsNextOf : Cursor → Seat → ℕ → Walk → Cursor → Seat → Type 0
IsNextOf old seat budget walk.Page new later = HasShown old seat budget new later
IsNextOf old seat budget walk.Spent new later = HasAsked old seat budget new later
IsNextOf old seat budget walk.End new later = (old.at ≡ None) × (new ≡ old) × (later ≡ seat)

-- the commands of a seat's calls, in order
abbrev pub commands_in : Seat → List Command
commands_in seat = map (λ call. call.0) (calls_in seat)

-- The seat was called with the commands that it had been called with, and then with commands of cursor pages alone.
abbrev pub CallsPages : Seat → Seat → Type 0
CallsPages seat later = (keys : List (List ℕ)) × (commands_in later ≡ commands_in seat ++ map command.Page keys)

-- A list of pairs grew by what pages show that follow one another in one walk, from where the cursor stood to where it stands. After whatever
-- the seat had seen while it was idle the walk began, and it was over before something that the seat has seen while it was idle. Nothing else was called on the seat.
pub record HasWalked (old : Cursor) (seat : Seat) (before after : List (List ℕ × List ℕ)) (new : Cursor) (later : Seat) : Type 0 where
  pub pages : List WalkedPage
  pub shown : after ≡ before ++ pairs_shown pages
  pub walk : (early : List Entry) → WasIdle seat early → (late : List Entry) × WasIdle later late × IsWalk later.seen old.bound old.at (length early) pages new.at (length late)
  pub bound : new.bound ≡ old.bound
  pub grows : StartsWith later.seen seat.seen
  pub alone : CallsPages seat later

-- What was added to a list tells of the map, by whatever points the run is linearized: from after whatever the seat had seen while it was idle
-- to before something that it has seen while it was idle.
pub record HasTold (old : Cursor) (seat : Seat) (before after : List (List ℕ × List ℕ)) (new : Cursor) (later : Seat) : Type 0 where
  pub shown : List (List ℕ × List ℕ)
  pub added : after ≡ before ++ shown
  pub tells : (from : List ℕ) (early : List Entry) → old.at ≡ Some from → WasIdle seat early → (late : List Entry) × WasIdle later late
      × ((limits : Limits) (turns : List Turn) (linear : IsLinearized limits turns later.seen) → TellMap later.seen linear.points (length early) (length late) from (end_under old.bound new.at) shown)

-- what an answer adds to a list
abbrev pub added_by : Walk → Cursor → List (List ℕ × List ℕ)
added_by walk.Page cursor = cursor.pairs
added_by walk.Spent cursor = []
added_by walk.End cursor = []

-- The budget of one page was spent on the seat, after all that it had seen at first.
pub record IsSpentAt (first : Seat) (budget : ℕ) (new : Cursor) (later : Seat) : Type 0 where
  pub old : Cursor
  pub seat : Seat
  pub same : IsSame seat later
  pub grows : StartsWith seat.seen first.seen
  pub asked : HasAsked old seat budget new later

-- As many pages were shown as a scan shows at most, 2^64 - 1.
abbrev pub HasManyPages : Cursor → Seat → List (List ℕ × List ℕ) → List (List ℕ × List ℕ) → Cursor → Seat → Type 0
HasManyPages old seat before after new later = (walked : HasWalked old seat before after new later) × (length walked.pages ≡ 2 ^ 64 - 1)

-- Why a scan stopped.
abbrev pub HasScanStopped : Scanned → Cursor → Seat → ℕ → List (List ℕ × List ℕ) → List (List ℕ × List ℕ) → Cursor → Seat → Type 0
HasScanStopped scanned.End old seat budget before after new later = new.at ≡ None
HasScanStopped scanned.Spent old seat budget before after new later = IsSpentAt seat budget new later ⊎ HasManyPages old seat before after new later

-- What seeking a pair came to: a page that has one, or the walk's end; or steps or pages were too few.
abbrev pub HasSeekStopped : Walk → Cursor → Seat → ℕ → Cursor → Seat → Type 0
HasSeekStopped walk.Page old seat budget new later = 0 < length new.pairs
HasSeekStopped walk.Spent old seat budget new later = IsSpentAt seat budget new later ⊎ HasManyPages old seat [] [] new later
HasSeekStopped walk.End old seat budget new later = new.at ≡ None
