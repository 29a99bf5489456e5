use Rattle.running_tree.proofs.Words.{subst, sym, IsLacking, Seat, seen_of}
use Rattle.running_tree.proofs.Advancing.{seat_of}
use Rattle.running_tree.proofs.LackLaws.{lacking}
use Rattle.running_tree.proofs.seat.BwSeat.lacking.Goals as goal

pub returns : goal.returns
returns g c =
    subst (IsLacking c.args.self.now) (sym c.lacks.ensures) (subst (λ (s : Seat). IsLacking s c.self.inside.actor.lacks) c.self.view_is
    (lacking (seat_of c.self.inside.desk.place.table_id c.self.inside.limits c.self.inside.desk.number (seen_of c.self.inside.desk.place.me)) c.self.inside.actor.lacks c.self.invariant.seated.lacks))
