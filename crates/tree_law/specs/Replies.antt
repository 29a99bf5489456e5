-- What a reply is, by the logs that its operation has seen.
use Rattle.std.specs.Prelude.{◌≡◌, ℕ, ◌⊎◌, List, Option, Some, None}
use Rattle.bw_model.specs.declared.command.Command.{Command}
use Rattle.bw_model.specs.declared.command.Reply.{Reply}
use Rattle.bw_model.specs.Log.{Update, logged_value}
use Rattle.bw_model.specs.Replies.{command_key, reply_of, update_of}
use Rattle.tree_law.specs.Owners.{Among}

-- The reply is the command's by the log at the operation's point; or it has none, and the reply is the command's by a
-- log at one of its own steps, where it makes no update.
pub record IsRepliedAt (actor : ℕ) (command : Command) (reply : Reply) (point : Option (List Update)) (logs : List (List Update)) : Type 0 where
  pub at : List Update
  pub same : reply_of command (logged_value at (command_key command)) ≡ Some reply
  pub own : (point ≡ Some at) ⊎ ((point ≡ None) × (update_of actor command (logged_value at (command_key command)) ≡ None) × Among at logs)
