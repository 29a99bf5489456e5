use Rattle.structure_changes.proofs.Words.{◌≡◌, ◌<◌, ◌/◌, length, true, sym, ap, ◌∙◌, arith, at_read, Item, is_held}
use Rattle.structure_changes.proofs.SplitFits.{next_place}
use Rattle.structure_changes.proofs.split.split_place.Goals as goal

pub returns-then-is_held-clause-place : goal.returns-then-is_held-clause-place
returns-then-is_held-clause-place c =
    let Held : Item → Type 0 = λ item. is_held item.content ≡ true in
    let many = c.requires.many in
    let len = c.len-middle.ensures.count in
    let is = c.index-as_slice-middle.is in
    let held : Held c.index-as_slice-middle.result = (let h = sym c.is_held.ensures ∙ c.if-is_held.true in rw (← is) at h) in
    let within : c.len-middle.result / 2 < length c.as_slice.result.now = (let same = ap length c.as_slice.ensures.items in omega (arith, same, len, many)) in
    let there = at_read c.as_slice.result.now Held (c.len-middle.result / 2) c.index-as_slice-middle.result within is held in
    let at_middle = rw (c.as_slice.ensures.items, len) at there in
    rw len (next_place c.args.items.now c.requires.apart many at_middle)
