use Rattle.std.proofs.Common.{IsTrue, subst, sym}
use Rattle.bw_model.specs.Bytes.{is_in_range}
use Rattle.base_page.specs.Pages.{Page, IsOfLevel}
use Rattle.base_page.proofs.PageLaws.{IsPage-put}
use Rattle.base_page.proofs.page.Page.put.Goals as goal

pub invariant_of-self : goal.invariant_of-self
invariant_of-self c =
    let covered = subst (λ (page : Page). IsTrue (is_in_range page.low page.high c.args.key)) (sym c.self.view_is) c.requires.covered in
    let kind = subst (λ (page : Page). IsOfLevel page.level c.args.content) (sym c.self.view_is) c.requires.kind in
    IsPage-put _ c.self.invariant c.put.new.self c.put.ensures.items c.args.key c.args.content covered kind c.put.ensures.contents

pub returns-clause-page : goal.returns-clause-page
returns-clause-page c = invariant_of-self c
