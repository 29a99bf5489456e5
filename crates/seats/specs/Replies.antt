-- What a command comes to on a seat at hand.
use Rattle.std.specs.Prelude.{◌≡◌, ◌++◌, ◌⊎◌, ℕ, IsSome, List, None, Option}
use Rattle.bw_model.specs.declared.command.Command.{Command}
use Rattle.bw_model.specs.declared.command.Reply.{Reply}
use Rattle.running_tree.specs.Calls.{IsSpent, calls_in}
use Rattle.running_tree.specs.Runs.{StartsWith}
use Rattle.running_tree.specs.Seats.{IsSame, Seat, unfinished_command}
use Rattle.seats.specs.declared.replies.NoReply.{NoReply}
use Rattle.seats.specs.declared.replies.NoReply.TheVariants.{Busy, Spent}

-- how many steps a command is given that is to run to its end
abbrev pub many : ℕ
many = 65536

-- A seat can't begin a command: it has one, or there are no steps to take.
abbrev pub CantBegin : Seat → ℕ → Type 0
CantBegin seat budget = IsSome (unfinished_command seat) ⊎ (budget ≡ 0)

-- Why there is no reply: the seat has another command, and stays as it is; or all steps are spent, and this command is the seat's.
abbrev pub HasNoReply : Seat → Command → NoReply → Seat → Type 0
HasNoReply old command Busy new = IsSome (unfinished_command old) × (new ≡ old)
HasNoReply old command Spent new = (unfinished_command old ≡ None) × IsSpent old command many new

-- The seat has made these calls, one after another, and is idle again. What it has seen goes on from what it had seen.
pub record GoesOn (old : Seat) (made : List (Command × Option Reply)) (new : Seat) : Type 0 where
  pub same : IsSame old new
  pub grows : StartsWith new.seen old.seen
  pub calls : calls_in new ≡ calls_in old ++ made
  pub idle : unfinished_command new ≡ None
