-- Replies as a trace keeps them.
use Rattle.std.specs.Prelude.{ℕ, List, ⊤}
use Rattle.bw_model.specs.declared.command.Reply.{Reply}
use Rattle.bw_model.specs.declared.command.Reply.TheVariants as reply
use Rattle.core_memory.specs.declared.replies.Replied.{Replied}
use Rattle.core_memory.specs.declared.replies.Replied.TheVariants.{Value, None, Inserted, Exists, Set, Replaced, Deleted, Absent, Swapped, Differs, Page, BackPage, Tidied, Full}

-- the reply that was kept
abbrev pub reply_in_box : Replied (List (List ℕ × List ℕ)) → Reply
reply_in_box (Value value) = reply.Value value
reply_in_box None = reply.None
reply_in_box Inserted = reply.Inserted
reply_in_box (Exists value) = reply.Exists value
reply_in_box Set = reply.Set
reply_in_box (Replaced value) = reply.Replaced value
reply_in_box (Deleted value) = reply.Deleted value
reply_in_box Absent = reply.Absent
reply_in_box Swapped = reply.Swapped
reply_in_box (Differs value) = reply.Differs value
reply_in_box (Page items next) = reply.Page items next
reply_in_box (BackPage items next) = reply.BackPage items next
reply_in_box Tidied = reply.Tidied
reply_in_box Full = reply.Full

-- the reply is a page, of either direction
abbrev pub ShowsPairs : Reply → Type 0
ShowsPairs (reply.Page items next) = ⊤
ShowsPairs (reply.BackPage items next) = ⊤
ShowsPairs (reply.Value value) = ⊥
ShowsPairs reply.None = ⊥
ShowsPairs reply.Inserted = ⊥
ShowsPairs (reply.Exists value) = ⊥
ShowsPairs reply.Set = ⊥
ShowsPairs (reply.Replaced value) = ⊥
ShowsPairs (reply.Deleted value) = ⊥
ShowsPairs reply.Absent = ⊥
ShowsPairs reply.Swapped = ⊥
ShowsPairs (reply.Differs value) = ⊥
ShowsPairs reply.Tidied = ⊥
ShowsPairs reply.Full = ⊥
