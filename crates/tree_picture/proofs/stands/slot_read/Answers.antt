use Rattle.std.proofs.Common.{◌≡◌, ◌-◌, ◌+◌, arith, ap, sym, take, ◌∙◌}
use Rattle.tree_picture.specs.Stands.{slot_read}
use Rattle.tree_picture.proofs.Standing.{read_next}
use Rattle.tree_picture.proofs.stands.slot_read.Goals as goal

pub returns-in-Some-slot_told : goal.returns-in-Some-slot_told
returns-in-Some-slot_told c =
    let many = c.len-many.result in
    let back = c.loop-back.back in
    let last : many - back ≡ many - 1 - back + 1 = (let there = c.loop-back-test.true in omega (arith, there)) in
    sym (read_next _ _ _ c.in-Some.entry _ _ c.loop-back.invariant last (sym c.entry.ensures ∙ c.in-Some.is) (sym c.in-Some-slot_told.is ∙ c.slot_told.ensures))

pub loop-back-preserved : goal.loop-back-preserved
loop-back-preserved c =
    let many = c.len-many.result in
    let back = c.loop-back.back in
    let last : many - back ≡ many - 1 - back + 1 = (let there = c.loop-back-test.true in omega (arith, there)) in
    let same : many - 1 - back ≡ many - (back + 1) = omega arith in
    read_next _ _ _ c.in-Some.entry _ _ c.loop-back.invariant last (sym c.entry.ensures ∙ c.in-Some.is) (sym c.in_default-slot_told.is ∙ c.slot_told.ensures)
    ∙ ap (λ n. slot_read (take n c.args.entries.now.items) c.args.number) same
