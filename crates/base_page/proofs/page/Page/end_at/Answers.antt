use Rattle.std.proofs.Common.{List, None, IsTrue, ap, subst, sym, ◌∙◌}
use Rattle.std.specs.Prelude.{if◌then◌else◌}
use Rattle.bw_model.specs.Bytes.{is_below}
use Rattle.base_page.specs.declared.item.Item.{Item}
use Rattle.base_page.specs.Pages.{Page, content_at}
use Rattle.base_page.proofs.CutLaws.{content_at-take, IsPage-lower}
use Rattle.base_page.proofs.page.Page.end_at.Goals as goal

pub returns-clause-contents : goal.returns-clause-contents
returns-clause-contents c q =
    ap (λ (xs : List Item). content_at xs q) c.truncate.ensures.front
    ∙ content_at-take c.self.inside.items c.args.separator c.count_below-place.result c.count_below-place.ensures q
    ∙ ap (λ (page : Page). if is_below q c.args.separator then content_at page.items q else None) c.self.view_is

pub invariant_of-self : goal.invariant_of-self
invariant_of-self c =
    let above = subst (λ (page : Page). IsTrue (is_below page.low c.args.separator)) (sym c.self.view_is) c.requires in
    rw c.truncate.ensures.front (IsPage-lower _ c.self.invariant c.args.separator c.count_below-place.result c.count_below-place.ensures c.args.right above)

pub returns-clause-page : goal.returns-clause-page
returns-clause-page c = invariant_of-self c
