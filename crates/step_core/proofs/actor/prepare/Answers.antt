use Rattle.bw_model.specs.Lent.{step_of_loan}
use Rattle.step_core.proofs.Taking.{spellable}
use Rattle.step_core.proofs.actor.prepare.Goals as goal

pub shared_step-requires : goal.shared_step-requires
shared_step-requires g c = spellable c.args.actor.now c.requires.shown (step_of_loan c.wanted.result) c.wanted.ensures
