use Rattle.base_page.proofs.PageLaws.{IsPage-remove}
use Rattle.base_page.proofs.page.Page.delete.Goals as goal

pub invariant_of-self : goal.invariant_of-self
invariant_of-self c = IsPage-remove _ c.self.invariant c.remove.new.self c.remove.ensures.items c.args.key.now c.remove.ensures.contents

pub returns-clause-page : goal.returns-clause-page
returns-clause-page c = invariant_of-self c
