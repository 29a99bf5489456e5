use Rattle.std.proofs.Common.{◌≡◌, true, subst, sym}
use Rattle.std.specs.Ordering.{is_eq}
use Rattle.std.specs.Prelude.{if◌then◌else◌}
use Rattle.bw_model.specs.Bytes.{key_cmp}
use Rattle.base_page.specs.declared.item.Content.TheVariants.{Child}
use Rattle.base_page.specs.Pages.{Page, content_at, content_held}
use Rattle.base_page.proofs.PageLaws.{IsPage-put, belongs, child_there, held_none}
use Rattle.base_page.proofs.page.Page.hold.Goals as goal

pub returns-in-None-clause-contents : goal.returns-in-None-clause-contents
returns-in-None-clause-contents c q =
    subst (λ (page : Page). content_at page.items q ≡ (if is_eq (key_cmp q c.args.key.now) then content_held (content_at page.items c.args.key.now) else content_at page.items q)) c.self.view_is
    (held_none c.self.inside.items c.args.key.now (sym c.in-None.ensures) q)

pub invariant_of-self : goal.invariant_of-self
invariant_of-self c =
    let there = child_there (content_at c.self.inside.items c.args.key.now) c.in-Some.child (sym c.in-Some.ensures) in
    let b = belongs _ c.self.invariant c.args.key.now (Child c.in-Some.child there.0) there.1 in
    IsPage-put _ c.self.invariant c.put.new.self c.put.ensures.items c.args.key.now (Child c.in-Some.child true) b.within b.kind (rw c.copied.ensures at c.put.ensures.contents)

pub returns-in-Some-clause-page : goal.returns-in-Some-clause-page
returns-in-Some-clause-page c = invariant_of-self c
