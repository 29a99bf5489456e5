use Rattle.change_machine.proofs.Words.{◌∙◌}
use Rattle.change_machine.proofs.Beginning.{begun}
use Rattle.change_machine.proofs.change.Change.begin.Goals as goal

pub returns : goal.returns
returns g c =
    begun c.make.new.self c.args.limits.now c.args.plan.now.value c.args.spares.now c.self.inside.near c.make.ensures.same.limits
    (rw c.swap.ensures.x_after at c.make.ensures.same.plan) (c.make.ensures.state ∙ (rw c.deref.ensures at c.first_state-self-inside.ensures))
    c.make.ensures.made c.requires.room c.requires.target
