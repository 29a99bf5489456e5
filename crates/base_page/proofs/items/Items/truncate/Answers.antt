use Rattle.base_page.proofs.PlaceLaws.{AreItems-take}
use Rattle.base_page.proofs.items.Items.truncate.Goals as goal

pub invariant_of-self : goal.invariant_of-self
invariant_of-self c = rw c.truncate.ensures.items (AreItems-take _ c.self.invariant c.args.place)

pub returns-clause-items : goal.returns-clause-items
returns-clause-items c = invariant_of-self c
