use Rattle.structure_changes.proofs.Words.{◌≡◌, ◌≢◌, ◌<◌, refl, sym, ap, ◌∙◌, arith, false≢true, held_count, is_removed, low_in, Makes, HasFreeNeighbours}
use Rattle.structure_changes.proofs.HoldFits.{planned}
use Rattle.structure_changes.proofs.Places.{decides_key, from_made, of_made, same_records}
use Rattle.structure_changes.proofs.hold.plan_hold.Goals as goal

pub returns-then-is_eq-clause-plan : goal.returns-then-is_eq-clause-plan
returns-then-is_eq-clause-plan g c = λ can.
    let same = (decides_key c.low-low.result c.low.result c.is_eq.result (rw (← c.cmp.ensures) c.is_eq.ensures)).0 c.if-is_eq.true in
    can.inner (sym (c.low-low.ensures.low ∙ ap low_in (same_records c.chain.ensures)) ∙ same ∙ c.low.ensures.low ∙ ap low_in (same_records c.chain-above.ensures))

pub returns-then-held_count-ge-MAX_HELD-clause-plan : goal.returns-then-held_count-ge-MAX_HELD-clause-plan
returns-then-held_count-ge-MAX_HELD-clause-plan g c = λ can.
    let makes = rw c.chain-above.ensures at c.page-made.ensures.makes in
    let few = of_made c.args.parent.now.chain c.page-made.result (λ items. held_count items < 4) makes can.few in
    let count = c.held_count.ensures ∙ ap held_count (c.as_slice.ensures.items ∙ c.items.ensures) in
    let many = c.if-held_count-ge-MAX_HELD.true in
    omega (arith, few, count, many)

pub returns-then-not-has_free_neighbours-clause-plan : goal.returns-then-not-has_free_neighbours-clause-plan
returns-then-not-has_free_neighbours-clause-plan g c = λ can.
    let makes = rw c.chain-above.ensures at c.page-made.ensures.makes in
    let free = of_made c.args.parent.now.chain c.page-made.result (HasFreeNeighbours (low_in c.args.page.now.chain)) makes can.free in
    let yes = c.has_free_neighbours.ensures.1 (rw (c.as_slice-2.ensures.items, c.items-2.ensures, c.low-low.ensures.low, c.chain.ensures) free) in
    absurd (false≢true (sym c.if-not-has_free_neighbours.true ∙ yes))

pub returns-clause-plan : goal.returns-clause-plan
returns-clause-plan g c =
    let chain = c.args.parent.now.chain in
    let made = c.page-made.result in
    let makes : Makes chain made = rw c.chain-above.ensures at c.page-made.ensures.makes in
    let low : c.low-low.result ≡ low_in c.args.page.now.chain = c.low-low.ensures.low ∙ ap low_in (same_records c.chain.ensures) in
    let alive : is_removed chain ≡ _ = sym (ap is_removed (same_records c.chain-above.ensures)) ∙ sym c.is_removed.ensures ∙ c.if-is_removed.false in
    let other : low_in c.args.page.now.chain ≢ low_in chain = λ same.
    absurd (false≢true (sym c.if-is_eq.false ∙ (decides_key c.low-low.result c.low.result c.is_eq.result (rw (← c.cmp.ensures) c.is_eq.ensures)).1
    (low ∙ same ∙ sym (c.low.ensures.low ∙ ap low_in (same_records c.chain-above.ensures))))) in
    let held : held_count made.items < 4 = (let count = c.held_count.ensures ∙ ap held_count (c.as_slice.ensures.items ∙ c.items.ensures) in let few =
    c.if-held_count-ge-MAX_HELD.false in omega (arith, count, few)) in
    let free : HasFreeNeighbours (low_in c.args.page.now.chain) made.items = rw (← low, ← c.items-2.ensures, ← c.as_slice-2.ensures.items)
    (c.has_free_neighbours.ensures.0 c.if-not-has_free_neighbours.false) in
    planned c.args.parent.now c.args.page.now made _ alive makes c.page-made.ensures.ruled (rw (c.level.ensures, c.chain-above.ensures, c.head.ensures, c.pid.ensures, low) refl)
    (record {
      above = alive;
      there = c.has_term.ensures.has.0 c.if-not-has_term.false;
      inner = other;
      few = from_made chain made (λ items. held_count items < 4) makes held;
      free = from_made chain made (HasFreeNeighbours (low_in c.args.page.now.chain)) makes free;
      short = rw (← same_records c.chain-above.ensures) (let a = c.deltas.ensures in let b = c.if-deltas-ge-MANY_DELTAS.false in omega (arith, a, b));
    })
