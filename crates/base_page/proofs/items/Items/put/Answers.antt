use Rattle.std.proofs.Common.{◌≡◌, List, ℕ, length, set, arith, ap, subst}
use Rattle.std.specs.List.{refill}
use Rattle.std.proofs.lemmas.List.{length-set}
use Rattle.std.proofs.lemmas.List.Edits.{length-insert}
use Rattle.base_page.specs.declared.item.Item.{Item}
use Rattle.base_page.specs.Pages.{AreItems}
use Rattle.base_page.proofs.PlaceLaws.{refilled, AreItems-set, AreItems-insert, content_at-set, content_at-insert, content_at_place, content_at_gap}
use Rattle.base_page.proofs.items.Items.put.Goals as goal

-- the items after the write are the items with the new one at the place
written : (old slice : List Item) (place : ℕ) (item : Item) → slice ≡ old → refill (length old) old (set slice place item) ≡ set old place item
written old slice place item is = rw is (refilled old (set old place item) (length-set old place item))

pub invariant_of-self : goal.invariant_of-self
invariant_of-self c = rw (written c.self.inside.items.items c.deref_mut.result.now c.in-Ok.place (record { key = c.args.key; content = c.args.content }) c.deref_mut.ensures.value)
    (AreItems-set _ c.self.invariant c.args.key c.in-Ok.place (record { key = c.args.key; content = c.args.content }) (rw c.self.view_is c.in-Ok.ensures.found) c.args.content)

pub insert-requires : goal.insert-requires
insert-requires c =
    let same_length : length c.self.inside.items.items ≡ length c.args.self.now = ap length c.self.view_is in
    let gap = c.in-Err.ensures.absent in
    let room = c.requires (content_at_gap c.args.self.now c.args.key c.in-Err.place gap) in
    (omega arith, (omega (arith, gap.within), omega (arith, room)))

pub invariant_of-self-in-Err : goal.invariant_of-self-in-Err
invariant_of-self-in-Err c =
    let room = c.requires (content_at_gap c.args.self.now c.args.key c.in-Err.place c.in-Err.ensures.absent) in
    rw (c.insert.ensures.items, c.self.view_is) (AreItems-insert c.args.self.now c.args.key c.in-Err.place c.in-Err.ensures.absent c.args.content (subst AreItems c.self.view_is c.self.invariant) room)

pub returns-in-Ok-clause-contents : goal.returns-in-Ok-clause-contents
returns-in-Ok-clause-contents c q =
    rw (written c.self.inside.items.items c.deref_mut.result.now c.in-Ok.place (record { key = c.args.key; content = c.args.content }) c.deref_mut.ensures.value, c.self.view_is)
    (content_at-set c.args.self.now (subst AreItems c.self.view_is c.self.invariant) c.args.key c.in-Ok.place
    (record { key = c.args.key; content = c.args.content }) c.in-Ok.ensures.found c.args.content q)

pub returns-in-Ok-clause-count : goal.returns-in-Ok-clause-count
returns-in-Ok-clause-count c =
    let there = content_at_place c.args.self.now (subst AreItems c.self.view_is c.self.invariant) c.args.key c.in-Ok.place
    (record { key = c.args.key; content = c.args.content }) c.in-Ok.ensures.found in
    rw (there, written c.self.inside.items.items c.deref_mut.result.now c.in-Ok.place (record { key = c.args.key; content = c.args.content }) c.deref_mut.ensures.value, c.self.view_is)
    (length-set c.args.self.now c.in-Ok.place (record { key = c.args.key; content = c.args.content }))

pub returns-in-Err-clause-contents : goal.returns-in-Err-clause-contents
returns-in-Err-clause-contents c q = rw (c.insert.ensures.items, c.self.view_is) (content_at-insert c.args.self.now c.args.key c.in-Err.place c.in-Err.ensures.absent c.args.content q)

pub returns-in-Err-clause-count : goal.returns-in-Err-clause-count
returns-in-Err-clause-count c =
    let absent = content_at_gap c.args.self.now c.args.key c.in-Err.place c.in-Err.ensures.absent in
    rw (absent, c.insert.ensures.items, c.self.view_is) (length-insert c.args.self.now c.in-Err.place (record { key = c.args.key; content = c.args.content }) c.in-Err.ensures.absent.within)

pub returns-in-Ok-clause-items : goal.returns-in-Ok-clause-items
returns-in-Ok-clause-items c = invariant_of-self c

pub returns-in-Err-clause-items : goal.returns-in-Err-clause-items
returns-in-Err-clause-items c = invariant_of-self-in-Err c
