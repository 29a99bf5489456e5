use Rattle.structure_changes.proofs.Words.{arith, inr, IsFitted, HasNoneHeld}
use Rattle.structure_changes.proofs.Places.{made}
use Rattle.structure_changes.proofs.upkeep.plan_upkeep.Goals as goal

pub returns-then-item_count-gt-FEW_ITEMS-clause-plan : goal.returns-then-item_count-gt-FEW_ITEMS-clause-plan
returns-then-item_count-gt-FEW_ITEMS-clause-plan g c = λ small.
    let (items, has, few) = small.few in
    let count = c.item_count.ensures.count items (rw c.chain-chain.ensures has) in
    let many = c.if-item_count-gt-FEW_ITEMS.true in
    absurd (omega (arith, few, count, many))

pub returns-clause-plan : goal.returns-clause-plan
returns-clause-plan g c =
    let chain = c.args.page.now.chain in
    let fitted : IsFitted chain = rw c.chain-chain.ensures at c.keeps_rules.ensures.fitted in
    let unheld : HasNoneHeld chain = rw c.chain-chain.ensures at (c.is_unheld.ensures.unheld.0 c.if-not-is_unheld.false) in
    let (page, makes) = made chain fitted in
    let count = c.item_count.ensures.count page.items (rw c.chain-chain.ensures makes.items) in
    let few = c.if-item_count-gt-FEW_ITEMS.false in
    record {
      small = record { other = rw (← c.pid.ensures) c.if-pid-eq1.false; few = (page.items, makes.items, omega (arith, count, few)); unheld = unheld };
      due = inr (record { hold = _; is = c.over-2.ensures; unheld = c.in_default.ensures.plan; due = c.in_ok-hold.ensures.plan });
    }
