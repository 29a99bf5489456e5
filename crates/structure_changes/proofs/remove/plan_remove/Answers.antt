use Rattle.structure_changes.proofs.Words.{refl, sym, ap, ◌∙◌, arith, false≢true, is_removed, IsFitted, page_of, ruled, HasNoneHeld}
use Rattle.structure_changes.proofs.RemoveFits.{planned}
use Rattle.structure_changes.proofs.Places.{same_records}
use Rattle.structure_changes.proofs.remove.plan_remove.Goals as goal

pub returns-then-item_count-gt-FEW_ITEMS-clause-plan : goal.returns-then-item_count-gt-FEW_ITEMS-clause-plan
returns-then-item_count-gt-FEW_ITEMS-clause-plan g c = λ can.
    let (items, has, few) = can.few in
    let count = c.item_count.ensures.count items (rw c.chain-chain.ensures has) in
    let many = c.if-item_count-gt-FEW_ITEMS.true in
    omega (arith, few, count, many)

pub returns-then-not-unheld-clause-plan : goal.returns-then-not-unheld-clause-plan
returns-then-not-unheld-clause-plan g c = λ can.
    let yes = c.is_unheld-unheld.ensures.unheld.1 (rw c.chain-chain.ensures can.unheld) in
    absurd (false≢true (sym c.if-not-unheld.true ∙ yes))

pub returns-clause-plan : goal.returns-clause-plan
returns-clause-plan g c =
    let chain = c.args.page.now.chain in
    let fitted : IsFitted chain = rw c.chain-chain.ensures at c.keeps_rules-2.ensures.fitted in
    let above : IsFitted c.args.parent.now.chain = rw c.chain-above.ensures at c.keeps_rules.ensures.fitted in
    let unheld : HasNoneHeld chain = rw c.chain-chain.ensures at (c.is_unheld-unheld.ensures.unheld.0 c.if-not-unheld.false) in
    let (made, makes) = page_of chain fitted in
    planned c.args.parent.now c.args.page.now made _ above makes (ruled chain made fitted makes) (rw (c.level.ensures, c.chain-chain.ensures, c.head.ensures) refl)
    (record {
      held = c.has_term.ensures.has.0 c.if-not-has_term.false;
      alive = sym (ap is_removed (same_records c.chain-chain.ensures)) ∙ sym c.is_removed.ensures ∙ c.if-is_removed.false;
      few = (made.items, makes.items, (let a = c.item_count.ensures.count made.items (rw c.chain-chain.ensures makes.items) in let d = c.if-item_count-gt-FEW_ITEMS.false in omega (arith, a, d)));
      unheld = unheld;
      short = rw (← same_records c.chain-chain.ensures) (let a = c.deltas.ensures in let b = c.if-deltas-ge-MANY_DELTAS.false in omega (arith, a, b));
    })
