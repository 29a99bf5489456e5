use Rattle.std.proofs.Common.{subst}
use Rattle.base_page.specs.Pages.{Page, IsPage}
use Rattle.base_page.specs.Places.{IsAt, IsGap}
use Rattle.base_page.proofs.ChildLaws.{child_upto_place, child_upto_gap}
use Rattle.base_page.proofs.page.Page.child_of.Goals as goal

pub returns-in-Ok : goal.returns-in-Ok
returns-in-Ok c =
    let at = subst (λ (page : Page). IsAt page.items c.args.key.now c.in-Ok.place) c.self.view_is c.in-Ok.ensures.found in
    child_upto_place c.args.self.now (subst IsPage c.self.view_is c.self.invariant) c.args.key.now c.in-Ok.place at c.child_before.result c.child_before.ensures

pub returns-in-Err : goal.returns-in-Err
returns-in-Err c =
    let gap = subst (λ (page : Page). IsGap page.items c.args.key.now c.in-Err.place) c.self.view_is c.in-Err.ensures.absent in
    child_upto_gap c.args.self.now (subst IsPage c.self.view_is c.self.invariant) c.args.key.now c.in-Err.place gap c.child_before-in-Err.result c.child_before-in-Err.ensures
