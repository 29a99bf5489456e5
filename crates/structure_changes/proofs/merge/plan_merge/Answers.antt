use Rattle.structure_changes.proofs.Words.{◌≡◌, ◌≤◌, length, true, sym, ap, ◌∙◌, arith, held_count, is_removed, level_in, IsFitted, Makes, page_of, ruled}
use Rattle.structure_changes.proofs.MergeFits.{planned}
use Rattle.structure_changes.proofs.Places.{from_made, of_made, same_records}
use Rattle.structure_changes.proofs.Removed.{few_removed}
use Rattle.structure_changes.proofs.merge.plan_merge.Goals as goal

pub returns-then-item_count-gt-MERGE_ITEMS-clause-plan : goal.returns-then-item_count-gt-MERGE_ITEMS-clause-plan
returns-then-item_count-gt-MERGE_ITEMS-clause-plan g c = λ can.
    let (items, has, few) = can.roomy in
    let count = c.item_count.ensures.count items (rw c.chain-chain.ensures has) in
    let many = c.if-item_count-gt-MERGE_ITEMS.true in
    omega (arith, few, count, many)

pub returns-then-held_count-gt0-clause-plan : goal.returns-then-held_count-gt0-clause-plan
returns-then-held_count-gt0-clause-plan g c = λ can.
    let makes = rw c.chain-gone.ensures at c.page-merged.ensures.makes in
    let none = of_made c.args.removed.now.chain c.page-merged.result (λ items. held_count items ≡ 0) makes can.unheld in
    let count = c.held_count.ensures ∙ ap held_count (c.as_slice.ensures.items ∙ c.items.ensures) in
    let some = c.if-held_count-gt0.true in
    omega (arith, none, count, some)

pub returns-clause-plan : goal.returns-clause-plan
returns-clause-plan g c =
    let left = c.args.left.now.chain in
    let removed = c.args.removed.now.chain in
    let fitted : IsFitted left = rw c.chain-chain.ensures at c.keeps_rules.ensures.fitted in
    let fitted_removed : IsFitted removed = rw c.chain-gone.ensures at c.keeps_rules-2.ensures.fitted in
    let (made, makes) = page_of left fitted in
    let merged = c.page-merged.result in
    let makes_merged : Makes removed merged = rw c.chain-gone.ensures at c.page-merged.ensures.makes in
    let gone : is_removed removed ≡ true = sym (ap is_removed (same_records c.chain-gone.ensures)) ∙ sym c.is_removed-2.ensures ∙ c.if-not-is_removed.false in
    let unheld : held_count merged.items ≡ 0 = (let count = c.held_count.ensures ∙ ap held_count (c.as_slice.ensures.items ∙ c.items.ensures) in let none =
    c.if-held_count-gt0.false in omega (arith, count, none)) in
    let roomy : length made.items ≤ 16 = (let a = c.item_count.ensures.count made.items (rw c.chain-chain.ensures makes.items) in
    let d = c.if-item_count-gt-MERGE_ITEMS.false in omega (arith, a, d)) in
    let level : level_in removed ≡ level_in left = rw (← same_records c.chain-chain.ensures, ← same_records c.chain-gone.ensures)
    (let a = c.level.ensures in let b = c.level-2.ensures in let same = c.if-level.false in omega (arith, a, b, same)) in
    planned c.args.left.now c.args.removed.now made merged fitted_removed makes (ruled left made fitted makes) makes_merged
    (record {
      alive = sym (ap is_removed (same_records c.chain-chain.ensures)) ∙ sym c.is_removed.ensures ∙ c.if-is_removed.false;
      next_to = c.is_next_to.ensures.next.0 c.if-not-is_next_to.false;
      gone = gone;
      level = level;
      few = from_made removed merged (λ items. length items ≤ 4) makes_merged (few_removed removed merged fitted_removed gone makes_merged);
      unheld = from_made removed merged (λ items. held_count items ≡ 0) makes_merged unheld;
      short = rw (← same_records c.chain-chain.ensures) (let a = c.deltas.ensures in let b = c.if-deltas-ge-MANY_DELTAS.false in omega (arith, a, b));
      roomy = from_made left made (λ items. length items ≤ 16) makes roomy;
    })
    _
    (λ i. record {
      level = (c.level-3.ensures ∙ ap level_in (same_records c.chain-chain.ensures)) i;
      next = c.head.ensures i;
      low = (c.copied.ensures ∙ c.low.ensures ∙ makes_merged.low) i;
      high = (c.copied-2.ensures ∙ c.high.ensures ∙ makes_merged.high) i;
      right = (c.right.ensures ∙ makes_merged.right) i;
      items = (c.copied-3.ensures ∙ c.items-2.ensures) i;
    })
