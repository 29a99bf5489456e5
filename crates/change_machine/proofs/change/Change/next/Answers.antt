use Rattle.bw_model.specs.Answers.{answer_of}
use Rattle.change_machine.proofs.Answered.{follows}
use Rattle.change_machine.proofs.Deciding.{turns}
use Rattle.change_machine.proofs.Outs.{outs}
use Rattle.change_machine.proofs.Sound.{room_stays, sound_stays}
use Rattle.change_machine.proofs.SparePid.{pid_from}
use Rattle.change_machine.proofs.Spending.{spends}
use Rattle.change_machine.proofs.change.Change.next.Goals as goal

pub returns-clause-follows : goal.returns-clause-follows
returns-clause-follows g c = λ actor k h fits.
    follows c.args.self.now c.move_on.new.self c.args.spares.now c.move_on.new.spares (answer_of c.args.told) c.move_on.result c.move_on.ensures.moved
    c.move_on.ensures.same actor k c.requires.sound (rw (← c.self.view_is) c.self.invariant.0) h fits

pub returns-clause-limbo : goal.returns-clause-limbo
returns-clause-limbo g c = λ actor k h fits.
    (outs c.args.self.now c.move_on.new.self c.args.spares.now c.move_on.new.spares (answer_of c.args.told) c.move_on.result c.move_on.ensures.moved actor k
    c.requires.sound (rw (← c.self.view_is) c.self.invariant.0) h fits).limbo

pub returns-clause-fresh : goal.returns-clause-fresh
returns-clause-fresh g c = λ actor k h fits.
    (outs c.args.self.now c.move_on.new.self c.args.spares.now c.move_on.new.spares (answer_of c.args.told) c.move_on.result c.move_on.ensures.moved actor k
    c.requires.sound (rw (← c.self.view_is) c.self.invariant.0) h fits).fresh

pub returns-clause-spends : goal.returns-clause-spends
returns-clause-spends g c =
    spends c.args.self.now c.move_on.new.self c.args.spares.now c.move_on.new.spares (answer_of c.args.told) c.move_on.result c.move_on.ensures.moved
    c.move_on.ensures.same c.requires.told.k c.requires.told.fits c.requires.sound

pub returns-clause-room : goal.returns-clause-room
returns-clause-room g c =
    room_stays c.args.self.now c.move_on.new.self c.args.spares.now c.move_on.new.spares (answer_of c.args.told) c.move_on.result c.move_on.ensures.moved
    c.move_on.ensures.same c.requires.told.k c.requires.told.fits c.requires.sound (rw (← c.self.view_is) c.self.invariant.0)

pub returns-clause-sound : goal.returns-clause-sound
returns-clause-sound g c =
    sound_stays c.args.self.now c.move_on.new.self c.args.spares.now c.move_on.new.spares (answer_of c.args.told) c.move_on.result c.move_on.ensures.moved
    c.move_on.ensures.same c.requires.told.k c.requires.told.fits c.requires.sound (rw (← c.self.view_is) c.self.invariant.0)

pub returns-clause-pid : goal.returns-clause-pid
returns-clause-pid g c =
    pid_from c.args.self.now c.args.spares.now (answer_of c.args.told) (record { state = c.move_on.new.self.state; spares = c.move_on.new.spares; end = c.move_on.result }) c.move_on.ensures.moved

pub returns-clause-decides : goal.returns-clause-decides
returns-clause-decides g c =
    rw c.move_on.ensures.moved at (turns c.args.self.now.limits c.args.self.now.plan c.args.spares.now c.args.self.now.near c.args.self.now.state (answer_of c.args.told))
