use Rattle.op_machine.proofs.Words.{ap, wanted_by}
use Rattle.op_machine.proofs.ActorGoing.{is_asking, is_on, shown_at}
use Rattle.op_machine.proofs.actor.Actor.wanted.Goals as goal

pub returns : goal.returns
returns g c =
    let (limits, number, k, r, at) = rw (← c.self.view_is) at c.requires.shown in
    let on = is_on c.self.inside.is_running c.self.inside.operation c.self.inside.hand (rw (← c.self.view_is) at c.requires.running) in
    let shows = shown_at limits number k r c.self.inside.operation c.self.inside.hand (rw on at c.self.invariant) (rw on at at) in
    rw (← c.self.view_is, on) (ap wanted_by (is_asking c.self.inside.operation c.self.inside.hand _ (c.wanted.ensures k r shows).wanted))
