use Rattle.std.proofs.Common.{Some, ap, refl, sym, ◌∙◌}
use Rattle.op_machine.proofs.Stepping.{freely, halved, steps_reading, usefully}
use Rattle.op_machine.proofs.places.Places.wanted.Goals as goal

pub returns-in-Change-clause-may : goal.returns-in-Change-clause-may
returns-in-Change-clause-may g c task k r h =
    let shows = rw (← c.self.view_is, c.in-Change.is) at h in
    let change = c.self.inside.change in
    let step = c.wanted.ensures in
    record {
      within = rw (← shows.limits) step.within;
      may = step.may task.actor k shows.shows;
      frees = rw step.wanted (freely task.limits change.limits task.actor k change.plan c.args.spares.now change.state);
      useful = rw step.wanted (usefully change.limits k change.plan c.args.spares.now change.state shows.useful shows.shows.stands);
      halved = rw step.wanted (halved change.limits k change.plan c.args.spares.now change.state shows.useful shows.shows.stands);
    }

pub wanted-requires : goal.wanted-requires
wanted-requires g c =
    let (task, k, r, h) = c.requires.stands in
    let shows = rw (← c.self.view_is, c.in-Change.is) at h in
    record { sound = shows.sound; made = shows.made }

pub returns-in-Change-clause-wanted : goal.returns-in-Change-clause-wanted
returns-in-Change-clause-wanted g c = rw (← c.self.view_is, c.in-Change.is) (ap Some (sym c.wanted.ensures.wanted))

pub returns-in-Begun-clause-wanted : goal.returns-in-Begun-clause-wanted
returns-in-Begun-clause-wanted g c = let asks = rw (← c.self.view_is, c.in-Begun.is) at c.requires.asks in cc

pub returns-in-Begun-clause-may : goal.returns-in-Begun-clause-may
returns-in-Begun-clause-may g c task k r h = record { within = tt; may = tt; frees = tt; useful = tt; halved = tt }

pub returns-in-Epoch-clause-wanted : goal.returns-in-Epoch-clause-wanted
returns-in-Epoch-clause-wanted g c = rw (← c.self.view_is, c.in-Epoch.is) refl

pub returns-in-Epoch-clause-may : goal.returns-in-Epoch-clause-may
returns-in-Epoch-clause-may g c task k r h = record { within = tt; may = tt; frees = tt; useful = tt; halved = tt }

pub returns-in-Enter-clause-wanted : goal.returns-in-Enter-clause-wanted
returns-in-Enter-clause-wanted g c = rw (← c.self.view_is, c.in-Enter.is) refl

pub returns-in-Enter-clause-may : goal.returns-in-Enter-clause-may
returns-in-Enter-clause-may g c task k r h =
    let waits = rw (← c.self.view_is, c.in-Enter.is) at h in
    record { within = tt; may = (waits.0.rests.outside, waits.1, waits.2); frees = tt; useful = tt; halved = tt }

pub returns-in-Leave-clause-wanted : goal.returns-in-Leave-clause-wanted
returns-in-Leave-clause-wanted g c = rw (← c.self.view_is, c.in-Leave.is) refl

pub returns-in-Leave-clause-may : goal.returns-in-Leave-clause-may
returns-in-Leave-clause-may g c task k r h =
    let between = rw (← c.self.view_is, c.in-Leave.is) at h in
    record { within = tt; may = between.0.inside; frees = tt; useful = tt; halved = tt }

pub returns-in-Read-clause-wanted : goal.returns-in-Read-clause-wanted
returns-in-Read-clause-wanted g c = rw (← c.self.view_is, c.in-Read.is) (ap Some (sym (c.reading.ensures ∙ c.asks.ensures.wanted)))

pub returns-in-Read-clause-may : goal.returns-in-Read-clause-may
returns-in-Read-clause-may g c task k r h =
    let shows = rw (← c.self.view_is, c.in-Read.is) at h in
    rw c.reading.ensures (steps_reading task k c.asks.result (rw shows.limits at c.asks.ensures.within) (c.asks.ensures.may task.actor k r shows.shows))

pub returns-in-Write-clause-wanted : goal.returns-in-Write-clause-wanted
returns-in-Write-clause-wanted g c = rw (← c.self.view_is, c.in-Write.is) (ap Some (sym (c.reading-in-Write.ensures ∙ c.asks-in-Write.ensures.wanted)))

pub returns-in-Write-clause-may : goal.returns-in-Write-clause-may
returns-in-Write-clause-may g c task k r h =
    let shows = rw (← c.self.view_is, c.in-Write.is) at h in
    rw c.reading-in-Write.ensures (steps_reading task k c.asks-in-Write.result (rw shows.round_of.limits at c.asks-in-Write.ensures.within) (c.asks-in-Write.ensures.may task.actor k r shows.shows))
