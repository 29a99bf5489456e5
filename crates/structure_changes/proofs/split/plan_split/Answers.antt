use Rattle.structure_changes.proofs.Words.{◌≤◌, length, sym, ap, ◌∙◌, arith, is_removed, IsFitted, Makes}
use Rattle.structure_changes.proofs.SplitFits.{apart, planned}
use Rattle.structure_changes.proofs.Places.{same_records}
use Rattle.structure_changes.proofs.split.plan_split.Goals as goal

pub returns-then-item_count-lt-MANY_ITEMS-clause-plan : goal.returns-then-item_count-lt-MANY_ITEMS-clause-plan
returns-then-item_count-lt-MANY_ITEMS-clause-plan g c = λ can.
    let (items, has, many) = can.wide in
    let count = c.item_count.ensures.count items (rw c.chain-chain.ensures has) in
    let few = c.if-item_count-lt-MANY_ITEMS.true in
    omega (arith, few, count, many)

pub split_place-place-requires-clause-many : goal.split_place-place-requires-clause-many
split_place-place-requires-clause-many g c =
    let whole = c.page-whole.result in
    let count = c.item_count.ensures.count whole.items c.page-whole.ensures.makes.items in
    let items = ap length c.items.ensures in
    let many = c.if-item_count-lt-MANY_ITEMS.false in
    omega (arith, count, items, many)

pub split_place-place-requires-clause-apart : goal.split_place-place-requires-clause-apart
split_place-place-requires-clause-apart g c = rw c.items.ensures (apart c.page-whole.result c.page-whole.ensures.ruled)

pub returns-clause-plan : goal.returns-clause-plan
returns-clause-plan g c =
    let many : 16 ≤ length c.page-whole.result.items = (let a = c.item_count.ensures.count c.page-whole.result.items c.page-whole.ensures.makes.items in let d =
    c.if-item_count-lt-MANY_ITEMS.false in omega (arith, a, d)) in
    let fitted : IsFitted c.args.page.now.chain = rw c.chain-chain.ensures at c.keeps_rules.ensures.fitted in
    let makes : Makes c.args.page.now.chain c.page-whole.result = rw c.chain-chain.ensures at c.page-whole.ensures.makes in
    rw c.head.ensures (planned c.args.page.now c.page-whole.result c.cut_at-upper.result.0 c.cut_at-upper.result.1 c.split_place-place.result fitted makes
    (sym (ap is_removed (same_records c.chain-chain.ensures)) ∙ sym c.is_removed.ensures ∙ c.if-is_removed.false)
    (rw (← same_records c.chain-chain.ensures) (let a = c.deltas.ensures in let b = c.if-deltas-ge-MANY_DELTAS.false in omega (arith, a, b)))
    many
    c.split_place-place.ensures.inside
    (rw (← c.items.ensures) c.split_place-place.ensures.place)
    (record {
      pages = c.cut_at-upper.ensures.pages;
      separator = c.cut_at-upper.ensures.separator;
      is_lower = (1, c.cut_at-upper.ensures.lower);
      is_upper =
          c.cut_at-upper.ensures.upper;
      below = c.cut_at-upper.ensures.below;
      above = c.cut_at-upper.ensures.above;
    }))
