use Rattle.change_machine.proofs.Words.{◌∙◌, Install}
use Rattle.change_machine.proofs.Beginning.{begun}
use Rattle.change_machine.proofs.change.Change.begin_update.Goals as goal

pub returns : goal.returns
returns g c =
    begun c.make.new.self c.args.limits.now (Install c.args.pid c.args.head c.args.update.now) c.args.spares.now c.self.inside.near c.make.ensures.same.limits
    (c.make.ensures.same.plan ∙ c.update.ensures) (c.make.ensures.state ∙ rw c.update.ensures at c.first_state-self-inside.ensures) c.make.ensures.made c.requires.room c.requires.target
