-- Which replies a command may have.
use Rattle.std.specs.Prelude.{Bool, true, false, IsTrue, ⊤}
use Rattle.bw_model.specs.declared.command.Command.{Command}
use Rattle.bw_model.specs.declared.command.Command.TheVariants.{Get, Insert, Upsert, Delete, DeleteIf, Swap, Add, Page, Back, Tidy}
use Rattle.bw_model.specs.declared.command.Reply.{Reply}
use Rattle.bw_model.specs.declared.command.Reply.TheVariants as reply
use Rattle.running_tree.specs.declared.called.Called.{Called}
use Rattle.running_tree.specs.declared.called.Called.TheVariants.{Done, Spent}

-- whether the reply is one of the command's kind
abbrev pub fits : Command → Reply → Bool
fits (Get key) reply.None = true
fits (Get key) (reply.Value value) = true
fits (Insert key value) reply.Inserted = true
fits (Insert key value) (reply.Exists old) = true
fits (Insert key value) reply.Full = true
fits (Upsert key value) reply.Set = true
fits (Upsert key value) (reply.Replaced old) = true
fits (Upsert key value) reply.Full = true
fits (Delete key) (reply.Deleted old) = true
fits (Delete key) reply.Absent = true
fits (Delete key) reply.Full = true
fits (DeleteIf key expected) (reply.Deleted old) = true
fits (DeleteIf key expected) (reply.Differs old) = true
fits (DeleteIf key expected) reply.Absent = true
fits (DeleteIf key expected) reply.Full = true
fits (Swap key expected value) reply.Swapped = true
fits (Swap key expected value) (reply.Differs old) = true
fits (Swap key expected value) reply.Absent = true
fits (Swap key expected value) reply.Full = true
fits (Add key number) reply.Set = true
fits (Add key number) (reply.Replaced old) = true
fits (Add key number) (reply.Differs old) = true
fits (Add key number) reply.Full = true
fits (Page from) (reply.Page items next) = true
fits (Back upto) (reply.BackPage items next) = true
fits (Tidy key) reply.Tidied = true
fits (Tidy key) reply.Full = true
fits command given = false

-- What came of a call with the command fits it: a reply of its kind, or none.
abbrev pub CameFitting : Command → Called → Type 0
CameFitting command (Done given) = IsTrue (fits command given)
CameFitting command Spent = ⊤
