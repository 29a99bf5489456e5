use Rattle.std.proofs.Common.{sym, subst}
use Rattle.running_tree.specs.Trees.{AreSeatsOf, IsSeatOf}
use Rattle.seats.proofs.Pushed.{all_pushed}
use Rattle.seats.proofs.lists.give_seat.Goals as goal

pub returns-in-Ok-clause-own : goal.returns-in-Ok-clause-own
returns-in-Ok-clause-own c = subst (AreSeatsOf c.args.tree.now) (sym c.in-Ok.ensures.items) (all_pushed (IsSeatOf c.args.tree.now) c.args.seats.now.items c.args.seat c.requires.own c.requires.given)

pub returns-in-Err-clause-own : goal.returns-in-Err-clause-own
returns-in-Err-clause-own c = subst (AreSeatsOf c.args.tree.now) (sym c.in-Err.ensures.items) c.requires.own
