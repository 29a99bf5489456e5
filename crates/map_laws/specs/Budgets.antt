-- Budgets that are enough for a lookup or a cursor page.
use Rattle.std.specs.Prelude.{◌≡◌, ◌<◌, ◌≤◌, ◌+◌, ◌*◌, ℕ, List, length, None, false}
use Rattle.bw_model.specs.Replies.{is_writer}
use Rattle.bw_model.specs.declared.command.Command.{Command}
use Rattle.bw_model.specs.declared.command.Reply.{Reply}
use Rattle.linearization.specs.Progress.{AreAmong, ChangesTree}
use Rattle.linearization.specs.ReadersEnd.{one_memory}
use Rattle.running_tree.specs.Calls.{IsCalled}
use Rattle.running_tree.specs.Runs.{IsOneHistory}
use Rattle.running_tree.specs.Seats.{IsSame, Seat, unfinished_command}
use Rattle.running_tree.specs.declared.called.Called.{Called}
use Rattle.running_tree.specs.declared.called.Called.TheVariants.{Done}

-- Of what the seat has seen since then, at most so many entries change the tree.
abbrev pub ChangesAtMost : Seat → Seat → ℕ → Type 0
ChangesAtMost old new most = (changes : List ℕ) → AreAmong new.limits new.seen (length old.seen) (length new.seen) ChangesTree changes → length changes ≤ most

-- A lookup or a cursor page is done whose budget is larger than what one memory costs a reader, as much again for each change of the tree meanwhile,
-- and three steps.
abbrev pub LookupsAreDone : Type 0
LookupsAreDone = (old new : Seat) (command : Command) (budget most : ℕ) (called : Called) → IsOneHistory new.limits new.seen → IsSame old new
    → unfinished_command old ≡ None → is_writer command ≡ false → IsCalled old command budget called new → ChangesAtMost old new most → one_memory new.limits * (most + 1) + 3 < budget
    → (reply : Reply) × (called ≡ Done reply)
