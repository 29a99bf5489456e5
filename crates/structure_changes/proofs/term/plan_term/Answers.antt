use Rattle.structure_changes.proofs.Words.{◌≡◌, false, Option, Some, None, refl, sym, ap, ◌∙◌, arith, is_some, Content, is_removed, low_in, IsFitted, page_of, ruled}
use Rattle.structure_changes.proofs.TermFits.{planned}
use Rattle.structure_changes.proofs.Places.{same_records}
use Rattle.structure_changes.proofs.term.plan_term.Goals as goal

none_from : (o : Option Content) → is_some o ≡ false → o ≡ None
none_from None e = refl
none_from (Some content) e = absurd cc

pub returns-then-item_count-ge-MANY_ITEMS-clause-plan : goal.returns-then-item_count-ge-MANY_ITEMS-clause-plan
returns-then-item_count-ge-MANY_ITEMS-clause-plan g c = λ can.
    let (items, has, few) = can.roomy in
    let count = c.item_count.ensures.count items (rw c.chain-above.ensures has) in
    let many = c.if-item_count-ge-MANY_ITEMS.true in
    omega (arith, few, count, many)

pub returns-clause-plan : goal.returns-clause-plan
returns-clause-plan g c =
    let chain = c.args.parent.now.chain in
    let fitted : IsFitted chain = rw c.chain-above.ensures at c.keeps_rules.ensures.fitted in
    let low : c.low-low.result ≡ low_in c.args.page.now.chain = c.low-low.ensures.low ∙ ap low_in (same_records c.chain-chain.ensures) in
    let key = c.of-key.ensures ∙ low in
    let (made, makes) = page_of chain fitted in
    planned c.args.parent.now c.args.page.now made _ (sym (ap is_removed (same_records c.chain-above.ensures)) ∙ sym c.is_removed.ensures ∙ c.if-is_removed.false) makes (ruled chain made fitted makes)
    (let a = c.item_count.ensures.count made.items (rw c.chain-above.ensures makes.items) in let d = c.if-item_count-ge-MANY_ITEMS.false in omega (arith, a, d))
    (rw (c.level-3.ensures, c.chain-above.ensures, c.head.ensures, c.pid.ensures, low) refl)
    (sym (ap is_removed (same_records c.chain-chain.ensures)) ∙ sym c.is_removed-2.ensures ∙ c.if-is_removed-2.false)
    (rw (← same_records c.chain-above.ensures, ← same_records c.chain-chain.ensures)
    (let a = c.if-from.false in let b = c.from.ensures in let d = c.from-2.ensures in let e = c.level.ensures in let f = c.level-2.ensures in omega (arith, a, b, d, e, f)))
    (rw (← key, ← same_records c.chain-above.ensures) (sym c.covers.ensures.covers ∙ c.if-not-covers.false))
    (rw (← key, ← same_records c.chain-above.ensures, ← c.content.ensures.content) (none_from c.content.result (sym c.is_some.ensures ∙ c.if-is_some.false)))
    (rw (← same_records c.chain-above.ensures) (let a = c.deltas.ensures in let b = c.if-deltas-ge-MANY_DELTAS.false in omega (arith, a, b)))
