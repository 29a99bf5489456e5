use Rattle.bw_model.specs.Answers.{answer_of}
use Rattle.op_machine.proofs.InPlaceChanges.{changes_into, unlinks_into}
use Rattle.op_machine.proofs.places.Places.change_next.Goals as goal

pub returns-clause-makes : goal.returns-clause-makes
returns-clause-makes g c =
    let is = rw (← c.self.view_is) at c.requires.changing in
    let next = c.next.ensures in
    rw (← c.self.view_is, is)
    (changes_into c.self.inside.change c.next.new.self c.self.inside.then c.args.spares.now c.next.new.spares (answer_of c.args.told) c.next.result next.follows
    next.sound next.made next.room next.same next.pid next.spends)

pub returns-clause-unlinks : goal.returns-clause-unlinks
returns-clause-unlinks g c task k r h f =
    let is = rw (← c.self.view_is) at c.requires.changing in
    let next = c.next.ensures in
    let shows = rw (← c.self.view_is, is) at h in
    let fits = rw (← c.self.view_is, is) at f in
    rw (← c.self.view_is, is)
    (unlinks_into c.self.inside.change c.next.new.self c.self.inside.then c.args.spares.now c.next.new.spares (answer_of c.args.told) c.next.result next.limbo next.fresh task k r shows fits)

pub returns-clause-plan : goal.returns-clause-plan
returns-clause-plan g c = rw (← c.self.view_is) c.next.ensures.same.plan

pub returns-clause-decides : goal.returns-clause-decides
returns-clause-decides g c = rw (← c.self.view_is) c.next.ensures.decides
