use Rattle.op_machine.proofs.Words.{ap, ◌∙◌, answer_of, Op, state_of}
use Rattle.op_machine.proofs.SweepMoves.{begins_from}
use Rattle.op_machine.proofs.operation.Operation.sweep_on.Goals as goal

pub returns-in_default-clause-shows : goal.returns-in_default-clause-shows
returns-in_default-clause-shows g c k r spares h f =
    let shows = rw (← c.self.view_is) at h in
    let first = ap (λ (o : Op). o.state) c.self.view_is ∙ c.requires.first in
    let s = c.sweep-self-inside in
    rw (← c.self.view_is) (begins_from c.self.inside.task spares c.args.limbo.now s.new.limbo k r (state_of c.self.inside.places) c.self.inside.sweep
    s.result (answer_of c.args.told) c.in_default.is first shows s.ensures.shows s.ensures.sound s.ensures.same s.ensures.writer)
