use Rattle.op_machine.proofs.Words.{◌≡◌, Some, refl, sym, ◌∙◌, answer_of, Entered, state_of, TurnsInto}
use Rattle.op_machine.specs.declared.places.StateKind.TheVariants.{Enter}
use Rattle.op_machine.proofs.Going.{follows, has_entered}
use Rattle.op_machine.proofs.InPlaces.{comes_to}
use Rattle.op_machine.proofs.operation.Operation.turn.Goals as goal

pub returns-in-Enter : goal.returns-in-Enter
returns-in-Enter g c =
    let told = rw (← c.self.view_is) at c.requires.told in
    let places = c.self.inside.places in
    let spares = c.args.spares.now in
    let is : places.stand ≡ Enter c.in-Enter.epoch = sym c.stand.ensures ∙ c.in-Enter.is in
    let entered : TurnsInto (state_of places) spares (answer_of c.args.told) (state_of places) spares (Some Entered) = rw is (has_entered c.in-Enter.epoch spares (answer_of c.args.told)) in
    let begins = c.begin_round.ensures in
    rw (← c.self.view_is) (follows _ _ _ _ told _ _ entered _ refl _
    (comes_to c.self.inside.task c.self.inside.sweep (state_of places) (state_of c.begin_round.new.places) spares Entered (begins.stands spares) (begins.few spares) (begins.asks spares))
    (rw is begins.reads))
