-- Seats that see on.
use Rattle.std.proofs.Common.{◌≡◌, ℕ, [], subst, sym}
use Rattle.bw_model.specs.declared.command.Command.{Command}
use Rattle.running_tree.specs.Calls.{IsCalled, IsResumed}
use Rattle.running_tree.specs.Seats.{IsSame, Seat}
use Rattle.running_tree.specs.declared.called.Called.{Called}
use Rattle.running_tree.specs.declared.called.Called.TheVariants.{Done, Spent}
use Rattle.running_tree.proofs.Going.{same_on, same_self, starts_on}
use Rattle.std.proofs.lemmas.List.{append-nil}
use Rattle.bw_tree_c.specs.Seats.{IsLater}

pub later_self : (seat : Seat) → IsLater seat seat
later_self seat = record { same = same_self seat; grows = ([], sym (append-nil seat.seen)) }

pub later_on : (a b c : Seat) → IsLater a b → IsLater b c → IsLater a c
later_on a b c g h = record { same = same_on a b c g.same h.same; grows = starts_on a.seen b.seen c.seen g.grows h.grows }

pub later_as : (old new : Seat) → new ≡ old → IsLater old new
later_as old new is = subst (IsLater old) (sym is) (later_self old)

pub called_later : (old new : Seat) (command : Command) (budget : ℕ) (called : Called) → IsSame old new → IsCalled old command budget called new → IsLater old new
called_later old new command budget (Done reply) same h = record { same = same; grows = h.grows }
called_later old new command budget Spent same h = record { same = same; grows = h.grows }

pub resumed_later : (old new : Seat) (budget : ℕ) (called : Called) → IsSame old new → IsResumed old budget called new → IsLater old new
resumed_later old new budget (Done reply) same h = record { same = same; grows = h.grows }
resumed_later old new budget Spent same h = record { same = same; grows = h.grows }
