use Rattle.running_tree.proofs.Words.{◌≡◌, ◌∷◌, [], subst, Seat, Idle, part}
use Rattle.running_tree.proofs.seat.BwSeat.into_place.Goals as goal

pub returns-clause-part : goal.returns-clause-part
returns-clause-part g c = subst (λ (seat : Seat). c.self.inside.desk.place.me ≡ (part seat.limits seat.actor seat.seen Idle ∷ [], [])) c.self.view_is c.self.invariant.place
