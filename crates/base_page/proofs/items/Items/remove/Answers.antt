use Rattle.std.proofs.Common.{refl, subst, sym}
use Rattle.std.specs.Ordering.{is_eq}
use Rattle.std.proofs.lemmas.List.Edits.{length-remove}
use Rattle.bw_model.specs.Bytes.{key_cmp}
use Rattle.base_page.specs.Pages.{AreItems}
use Rattle.base_page.proofs.KeyLaws.{either, same}
use Rattle.base_page.proofs.PlaceLaws.{AreItems-remove, content_at-remove, content_at_place, content_at_gap}
use Rattle.base_page.proofs.items.Items.remove.Goals as goal

pub invariant_of-self : goal.invariant_of-self
invariant_of-self c = rw c.remove.ensures.items (AreItems-remove _ c.self.invariant c.args.key.now c.in-Ok.place c.remove.result (rw c.self.view_is c.in-Ok.ensures.found))

pub returns-in-Ok-clause-contents : goal.returns-in-Ok-clause-contents
returns-in-Ok-clause-contents c q =
    rw (c.remove.ensures.items, c.self.view_is)
    (content_at-remove c.args.self.now (subst AreItems c.self.view_is c.self.invariant) c.args.key.now c.in-Ok.place c.remove.result c.in-Ok.ensures.found q)

pub returns-in-Ok-clause-count : goal.returns-in-Ok-clause-count
returns-in-Ok-clause-count c =
    let there = content_at_place c.args.self.now (subst AreItems c.self.view_is c.self.invariant) c.args.key.now c.in-Ok.place c.remove.result c.in-Ok.ensures.found in
    let count = length-remove c.args.self.now c.in-Ok.place c.in-Ok.ensures.found.within in
    rw (there, c.remove.ensures.items, c.self.view_is) (sym count)

pub returns-in_default-clause-items : goal.returns-in_default-clause-items
returns-in_default-clause-items c = subst AreItems c.self.view_is c.self.invariant

pub returns-in_default-clause-contents : goal.returns-in_default-clause-contents
returns-in_default-clause-contents c q =
    let absent = content_at_gap c.args.self.now c.args.key.now c.in_default.field-0 c.in_default.ensures.absent in
    either (is_eq (key_cmp q c.args.key.now))
    (λ yes. rw (yes, same q c.args.key.now yes) absent)
    (λ no. rw no refl)

pub returns-in_default-clause-count : goal.returns-in_default-clause-count
returns-in_default-clause-count c = rw (content_at_gap c.args.self.now c.args.key.now c.in_default.field-0 c.in_default.ensures.absent) refl

pub returns-in-Ok-clause-items : goal.returns-in-Ok-clause-items
returns-in-Ok-clause-items c = invariant_of-self c
