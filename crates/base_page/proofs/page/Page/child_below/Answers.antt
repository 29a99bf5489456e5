use Rattle.std.proofs.Common.{ap, subst}
use Rattle.std.specs.Ordering.{is_lt}
use Rattle.bw_model.specs.Bytes.{is_below}
use Rattle.base_page.specs.declared.item.Item.{Item}
use Rattle.base_page.specs.Pages.{Page, IsPage}
use Rattle.base_page.specs.Places.{IsCut}
use Rattle.base_page.proofs.ItemLaws.{all-weaker}
use Rattle.base_page.proofs.ChildLaws.{child_before}
use Rattle.base_page.proofs.page.Page.child_below.Goals as goal

pub returns : goal.returns
returns c =
    let cut = subst (λ (page : Page). IsCut page.items c.args.key.now c.count_below.result) c.self.view_is c.count_below.ensures in
    child_before c.args.self.now (subst IsPage c.self.view_is c.self.invariant) (λ q. is_below q c.args.key.now) c.count_below.result cut.within
    (all-weaker _ _ (λ (item : Item) less. ap is_lt less) _ cut.below) cut.rest c.child_before.result c.child_before.ensures
