-- What runs on a seat, and what C is told of it.
use Rattle.std.specs.Prelude.{◌≡◌, ◌⊎◌, ℕ, None, IfSome, IsSome, ⊤}
use Rattle.bw_model.specs.declared.command.Command.{Command}
use Rattle.running_tree.specs.Calls.{IsCalled, IsResumed}
use Rattle.running_tree.specs.Room.{HasSeenRoom}
use Rattle.running_tree.specs.Runs.{IsOneHistory}
use Rattle.running_tree.specs.Seats.{Seat, unfinished_command}
use Rattle.running_tree.specs.declared.called.Called.{Called}
use Rattle.running_tree.specs.declared.room.Room.{Room}
use Rattle.map_laws.specs.Fits.{CameFitting}
use Rattle.seats.specs.Replies.{many}
use Rattle.bw_tree_c.specs.Shown.{ShowsRoom}
use Rattle.bw_tree_c.specs.Statuses.{status_of_called}
use Rattle.bw_tree_c.specs.Told.{ShowsPageOf, ShowsValueOf}
use Rattle.bw_tree_c.specs.declared.statuses.TheConstants.{OK, UNFINISHED, IDLE}
use Rattle.bw_tree_c.specs.declared.c_types.Bytes.{Bytes}
use Rattle.bw_tree_c.specs.declared.c_types.FreeRoom.{FreeRoom}
use Rattle.bw_tree_c.specs.declared.c_types.Page.{Page}

-- A command was called with a budget of steps, in one history; its status and the rest are told.
pub record WasCalled (seat : Seat) (command : Command) (budget answer : ℕ) (tells : Called → Type 0) (next : Seat) : Type 0 where
  pub called : Called
  pub call : IsCalled seat command budget called next
  pub fits : CameFitting command called
  pub history : IsOneHistory next.limits next.seen
  pub status : answer ≡ status_of_called called
  pub told : tells called

-- The seat has an operation already, and nothing changes; or the command is called.
abbrev pub IsCalledAndTold : Seat → Command → ℕ → ℕ → Type 0 → (Called → Type 0) → Seat → Type 0
IsCalledAndTold seat command budget status rest tells next =
    (IsSome (unfinished_command seat) × (status ≡ UNFINISHED) × rest × (next ≡ seat)) ⊎ WasCalled seat command budget status tells next

abbrev pub IsRunToValue : Seat → Command → ℕ → ℕ → Bytes → Bytes → Seat → Type 0
IsRunToValue seat command budget status old new next = IsCalledAndTold seat command budget status (new ≡ old) (λ called. ShowsValueOf called old new) next

abbrev pub IsRunToPage : Seat → Command → ℕ → Page → Page → Seat → Type 0
IsRunToPage seat command status old new next = IsCalledAndTold seat command many status (new ≡ old) (λ called. ShowsPageOf called old new) next

abbrev pub IsTidied : Seat → Command → ℕ → Seat → Type 0
IsTidied seat command status next = IsCalledAndTold seat command many status ⊤ (λ called. ⊤) next

-- The seat has an operation, which went on, in one history; its status, its value and its page are told.
pub record WasResumed (seat : Seat) (budget answer : ℕ) (old new : Bytes) (page shows : Page) (next : Seat) : Type 0 where
  pub busy : IsSome (unfinished_command seat)
  pub called : Called
  pub resumed : IsResumed seat budget called next
  pub fits : IfSome (unfinished_command seat) (λ command. CameFitting command called)
  pub history : IsOneHistory next.limits next.seen
  pub status : answer ≡ status_of_called called
  pub value : ShowsValueOf called old new
  pub pairs : ShowsPageOf called page shows

-- The seat has no operation, and nothing changes; or it goes on.
abbrev pub IsRunFurther : Seat → ℕ → ℕ → Bytes → Bytes → Page → Page → Seat → Type 0
IsRunFurther seat budget status old new page shows next =
    ((unfinished_command seat ≡ None) × (status ≡ IDLE) × (new ≡ old) × (shows ≡ page) × (next ≡ seat)) ⊎ WasResumed seat budget status old new page shows next

-- The status tells whether the seat has an operation.
abbrev pub TellsIdle : Seat → ℕ → Type 0
TellsIdle seat status = ((unfinished_command seat ≡ None) × (status ≡ OK)) ⊎ (IsSome (unfinished_command seat) × (status ≡ UNFINISHED))

-- The free PIDs and rows were counted, in one history, and are shown.
pub record IsWatched (seat : Seat) (answer : ℕ) (free : FreeRoom) (next : Seat) : Type 0 where
  pub room : Room
  pub seen : HasSeenRoom seat room next
  pub history : IsOneHistory next.limits next.seen
  pub status : answer ≡ OK
  pub shows : ShowsRoom room free
