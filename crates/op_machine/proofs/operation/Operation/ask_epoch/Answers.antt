use Rattle.op_machine.proofs.Words.{ap, Op, state_of, ◌∙◌}
use Rattle.op_machine.proofs.Takes.{starts_work}
use Rattle.op_machine.proofs.operation.Operation.ask_epoch.Goals as goal

pub returns : goal.returns
returns g c spares =
    rw (← c.self.view_is, c.go_to.ensures) (starts_work c.self.inside.task c.self.inside.sweep spares (state_of c.self.inside.places) (ap (λ (o : Op). o.state) c.self.view_is ∙ c.requires.first))
