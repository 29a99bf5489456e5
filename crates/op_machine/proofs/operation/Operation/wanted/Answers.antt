use Rattle.op_machine.proofs.operation.Operation.wanted.Goals as goal

pub wanted-requires-clause-stands : goal.wanted-requires-clause-stands
wanted-requires-clause-stands g c =
    let shown = c.requires.shown in
    let shows = shown.2.stands in
    (c.self.inside.task, shown.0, shown.1, rw (← c.self.view_is, ← c.hand.view_is) at shows)

pub returns-in-None : goal.returns-in-None
returns-in-None g c k r h =
    let stands = rw (← c.self.view_is, ← c.hand.view_is) at h.stands in
    let wanted = c.wanted.ensures in
    rw (← c.self.view_is, ← c.hand.view_is) (record {
      wanted = rw c.in-None.is wanted.wanted;
      may = wanted.may c.self.inside.task k r stands;
      shows = rw (← c.self.view_is, ← c.hand.view_is) at h;
    })
