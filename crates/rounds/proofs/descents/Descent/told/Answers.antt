use Rattle.rounds.proofs.Words.{◌<◌, arith}
use Rattle.rounds.specs.Descents.{placed_state}
use Rattle.rounds.specs.declared.descents.WayStateKind.TheVariants.{Slot}
use Rattle.rounds.proofs.Placed.{is_empty, root_within, starts}
use Rattle.rounds.proofs.descents.Descent.told.Goals as goal

pub returns-in-Slot-clause-responds : goal.returns-in-Slot-clause-responds
returns-in-Slot-clause-responds g c =
    let limits = c.self.inside.limits in
    rw (← c.self.view_is, c.in-Slot.is)
    (is_empty limits c.in-Slot.pid c.self.inside.part.records c.args.number (record { limits = limits; state = placed_state limits (Slot c.in-Slot.pid) c.self.inside.part }) c.if-number-eq0.true)

pub returns-in-Slot-2-clause-responds : goal.returns-in-Slot-2-clause-responds
returns-in-Slot-2-clause-responds g c =
    let limits = c.self.inside.limits in
    let some : 0 < c.args.number = let not = c.if-number-eq0.false in omega (arith, not) in
    rw (c.begin.ensures, ← c.self.view_is, c.in-Slot-2.is) (starts limits c.in-Slot-2.pid c.self.inside.part.records c.args.number some)

pub go_to-requires : goal.go_to-requires
go_to-requires g c =
    let there = root_within c.self.inside.limits c.args.number (rw (← c.self.view_is, c.in-Root.is) at c.requires.told) in
    record { some = there.0; below = rw (← c.self.view_is) there.1 }
