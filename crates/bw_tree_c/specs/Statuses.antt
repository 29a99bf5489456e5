-- Statuses.
use Rattle.std.specs.Prelude.{ℕ}
use Rattle.bw_model.specs.declared.command.Reply.{Reply}
use Rattle.bw_model.specs.declared.command.Reply.TheVariants as reply
use Rattle.running_tree.specs.declared.called.Called.{Called}
use Rattle.running_tree.specs.declared.called.Called.TheVariants.{Done, Spent}
use Rattle.bw_tree_c.specs.declared.statuses.TheConstants.{OK, ABSENT, EXISTS, REPLACED, DIFFERS, FULL, SPENT, CLOSED, NO_MEMORY, NO_SEAT, BUSY, UNFINISHED}
use Rattle.bw_tree_c.specs.declared.refusal.Refusal.{Refusal}
use Rattle.bw_tree_c.specs.declared.refusal.Refusal.TheVariants.{Busy, Closed, NoMemory, NoSeat, Unfinished}

-- that of a reply
abbrev pub status_of : Reply → ℕ
status_of (reply.Value value) = OK
status_of reply.None = ABSENT
status_of reply.Inserted = OK
status_of (reply.Exists value) = EXISTS
status_of reply.Set = OK
status_of (reply.Replaced value) = REPLACED
status_of (reply.Deleted value) = OK
status_of reply.Absent = ABSENT
status_of reply.Swapped = OK
status_of (reply.Differs value) = DIFFERS
status_of (reply.Page items next) = OK
status_of (reply.BackPage items next) = OK
status_of reply.Tidied = OK
status_of reply.Full = FULL

-- that of what became of a call
abbrev pub status_of_called : Called → ℕ
status_of_called (Done given) = status_of given
status_of_called Spent = SPENT

-- that of a refusal
abbrev pub status_of_refusal : Refusal → ℕ
status_of_refusal Closed = CLOSED
status_of_refusal NoSeat = NO_SEAT
status_of_refusal Busy = BUSY
status_of_refusal Unfinished = UNFINISHED
status_of_refusal NoMemory = NO_MEMORY
