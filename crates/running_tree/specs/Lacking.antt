-- What ran out for the last operation of a seat.
use Rattle.std.specs.Prelude.{◌≡◌, ◌≢◌, Option, Some, None}
use Rattle.bw_model.specs.declared.command.Reply.TheVariants.{Full}
use Rattle.change_machine.specs.Taking.{AllFull}
use Rattle.change_machine.specs.declared.taking.Kind.{Kind}
use Rattle.running_tree.specs.LastReply.{last_reply}
use Rattle.running_tree.specs.Seats.{Seat, known_to}

-- A kind is told where the operation that the seat began last is finished with Full, and nowhere else. By the seat's own entries that
-- operation has read each word of the free numbers of this kind as 0: of the rows those that have room for any record.
abbrev pub IsLacking : Seat → Option Kind → Type 0
IsLacking seat None = last_reply seat.actor seat.seen ≢ Some Full
IsLacking seat (Some kind) = (last_reply seat.actor seat.seen ≡ Some Full) × AllFull seat.limits (known_to seat).asked kind
