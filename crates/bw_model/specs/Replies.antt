-- What a command replies and changes, by the value that its key has.
use Rattle.std.specs.Prelude.{ℕ, List, Bool, true, false, if◌then◌else◌, Option, None, Some}
use Rattle.std.specs.Str.{bytes_eq}
use Rattle.bw_model.specs.declared.command.Command.{Command}
use Rattle.bw_model.specs.declared.command.Command.TheVariants.{Get, Insert, Upsert, Delete, DeleteIf, Swap, Add, Page, Back, Tidy}
use Rattle.bw_model.specs.declared.command.Reply.{Reply}
use Rattle.bw_model.specs.declared.command.Reply.TheVariants as reply
use Rattle.bw_model.specs.Log.{Update, set, unset}
use Rattle.bw_model.specs.Numbers.{number_bytes, is_number, added}

-- the key that a command is about
abbrev pub command_key : Command → List ℕ
command_key (Get key) = key
command_key (Insert key value) = key
command_key (Upsert key value) = key
command_key (Delete key) = key
command_key (DeleteIf key expected) = key
command_key (Swap key expected value) = key
command_key (Add key number) = key
command_key (Page key) = key
command_key (Back key) = key
command_key (Tidy key) = key

-- whether its actor may link records
abbrev pub is_writer : Command → Bool
is_writer (Get key) = false
is_writer (Insert key value) = true
is_writer (Upsert key value) = true
is_writer (Delete key) = true
is_writer (DeleteIf key expected) = true
is_writer (Swap key expected value) = true
is_writer (Add key number) = true
is_writer (Page key) = false
is_writer (Back key) = false
is_writer (Tidy key) = true

-- The reply of a command on one key, by the value of the key, if it has one; a page of either direction and a tidying go by more.
abbrev pub reply_of : Command → Option (List ℕ) → Option Reply
reply_of (Get key) None = Some reply.None
reply_of (Get key) (Some old) = Some (reply.Value old)
reply_of (Insert key value) None = Some reply.Inserted
reply_of (Insert key value) (Some old) = Some (reply.Exists old)
reply_of (Upsert key value) None = Some reply.Set
reply_of (Upsert key value) (Some old) = Some (reply.Replaced old)
reply_of (Delete key) None = Some reply.Absent
reply_of (Delete key) (Some old) = Some (reply.Deleted old)
reply_of (DeleteIf key expected) None = Some reply.Absent
reply_of (DeleteIf key expected) (Some old) = if bytes_eq old expected then Some (reply.Deleted old) else Some (reply.Differs old)
reply_of (Swap key expected value) None = Some reply.Absent
reply_of (Swap key expected value) (Some old) = if bytes_eq old expected then Some reply.Swapped else Some (reply.Differs old)
reply_of (Add key number) None = Some reply.Set
reply_of (Add key number) (Some old) = if is_number old then Some (reply.Replaced old) else Some (reply.Differs old)
reply_of (Page from) old = None
reply_of (Back key) old = None
reply_of (Tidy key) old = None

-- The update that an actor's command makes, if any.
abbrev pub update_of : ℕ → Command → Option (List ℕ) → Option Update
update_of actor (Get key) old = None
update_of actor (Insert key value) None = Some (set actor key value)
update_of actor (Insert key value) (Some old) = None
update_of actor (Upsert key value) old = Some (set actor key value)
update_of actor (Delete key) None = None
update_of actor (Delete key) (Some old) = Some (unset actor key)
update_of actor (DeleteIf key expected) None = None
update_of actor (DeleteIf key expected) (Some old) = if bytes_eq old expected then Some (unset actor key) else None
update_of actor (Swap key expected value) None = None
update_of actor (Swap key expected value) (Some old) = if bytes_eq old expected then Some (set actor key value) else None
update_of actor (Add key number) None = Some (set actor key (number_bytes number))
update_of actor (Add key number) (Some old) = if is_number old then Some (set actor key (added old number)) else None
update_of actor (Page from) old = None
update_of actor (Back key) old = None
update_of actor (Tidy key) old = None
