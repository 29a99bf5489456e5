use Rattle.change_machine.proofs.Words.{◌∙◌, sym}
use Rattle.bw_model.specs.Answers.{answer_of}
use Rattle.change_machine.proofs.Sound.{keeps_place}
use Rattle.change_machine.proofs.change.Change.go_on_taking.Goals as goal

pub keep-requires : goal.keep-requires
keep-requires g c is =
    keeps_place c.args.self.now c.args.spares.now c.args.taking (answer_of c.args.told) c.in-Taken.kind c.in-Taken.number c.requires.state c.requires.sound
    (rw (← c.self.view_is) (sym c.next.ensures.found ∙ c.in-Taken.is)) (rw (← c.self.view_is) (rw c.in-Taken.is at c.next.ensures.sound)) is
