use Rattle.rounds.proofs.Words.{sym, ◌∙◌}
use Rattle.round_model.specs.Descents.{Root}
use Rattle.rounds.proofs.Placed.{completes, continues, few, is_whole, lies_next}
use Rattle.rounds.proofs.descents.Descent.take_record.Goals as goal

pub push-requires-clause-few : goal.push-requires-clause-few
push-requires-clause-few g c =
    let part = c.self.inside.part in
    let told = rw (← c.self.view_is, c.in-Row.is) at c.requires.told in
    few c.self.inside.limits c.in-Row.pid part.head c.in-Row.row part.records c.args.found.content told

pub push-requires-clause-next : goal.push-requires-clause-next
push-requires-clause-next g c =
    let part = c.self.inside.part in
    let told = rw (← c.self.view_is, c.in-Row.is) at c.requires.told in
    lies_next c.self.inside.limits c.in-Row.pid part.head c.in-Row.row part.records c.args.found.content c.args.found.row (rw (← c.self.view_is, c.in-Row.is) at c.requires.asked) told

pub receive-requires-clause-chain : goal.receive-requires-clause-chain
receive-requires-clause-chain g c =
    let part = c.self.inside.part in
    let told = rw (← c.self.view_is, c.in-Row.is) at c.requires.told in
    rw c.push.ensures (is_whole c.self.inside.limits c.in-Row.pid part.head c.in-Row.row part.records c.args.found.content (sym c.next-next.ensures.next ∙ c.in-None.is) told)

pub returns-in-Some-clause-responds : goal.returns-in-Some-clause-responds
returns-in-Some-clause-responds g c =
    let part = c.self.inside.part in
    rw (c.push.ensures, ← c.self.view_is, c.in-Row.is)
    (continues c.self.inside.limits c.in-Row.pid part.head c.in-Row.row part.records c.args.found.content c.in-Some.row (sym c.next-next.ensures.next ∙ c.in-Some.is))

pub returns-in-None-clause-responds : goal.returns-in-None-clause-responds
returns-in-None-clause-responds g c =
    let limits = c.self.inside.limits in
    let part = c.self.inside.part in
    rw (← c.self.view_is, c.in-Row.is)
    (completes limits c.in-Row.pid part.head c.in-Row.row part.records c.args.found.content (record { limits = limits; state = Root }) c.receive.new.self
    (sym c.next-next.ensures.next ∙ c.in-None.is) c.receive.ensures.pid (c.receive.ensures.chain ∙ c.push.ensures))
