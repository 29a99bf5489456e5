use Rattle.structure_changes.proofs.Words.{◌≡◌, false, refl, sym, ap, ◌∙◌, arith, false≢true, is_below, high_in, is_removed, low_in, IsFitted, IsNextTo}
use Rattle.std.specs.Prelude.{IfSome, IsFalse, IsTrue}
use Rattle.structure_changes.proofs.UntermFits.{planned}
use Rattle.structure_changes.proofs.Places.{same_records}
use Rattle.structure_changes.proofs.unterm.plan_unterm.Goals as goal

pub returns-clause-plan : goal.returns-clause-plan
returns-clause-plan g c =
    let parent = c.args.parent.now.chain in
    let left = c.args.left.now.chain in
    let removed = c.args.removed.now.chain in
    let fitted : IsFitted parent = rw c.chain-above.ensures at c.keeps_rules.ensures.fitted in
    let standing : is_removed parent ≡ false = sym (ap is_removed (same_records c.chain-above.ensures)) ∙ sym c.is_removed.ensures ∙ c.if-is_removed.false in
    let low : c.low-low.result ≡ low_in removed = c.low-low.ensures.low ∙ ap low_in (same_records c.chain-gone.ensures) in
    let apart : ¬ IsNextTo c.args.left.now c.args.removed.now = λ m. false≢true (sym c.if-is_next_to.false ∙ c.is_next_to.ensures.next.1 m) in
    let below : IsTrue (is_below (low_in left) (low_in removed)) = rw (← same_records c.chain-chain.ensures, ← c.low.ensures.low, ← low, ← c.cmp.ensures, ← c.is_lt.ensures) c.if-not-is_lt.false in
    let within : IfSome (high_in left) (λ high. IsFalse (is_below high (low_in removed))) = rw (← same_records c.chain-chain.ensures, ← low) (c.reaches.ensures.reaches.0 c.if-not-reaches.false) in
    planned c.args.parent.now c.args.left.now c.args.removed.now _ standing fitted (rw (c.level.ensures, c.chain-above.ensures, c.head.ensures, c.pid.ensures, low) refl)
    (record {
      standing = standing;
      alive = sym (ap is_removed (same_records c.chain-chain.ensures)) ∙ sym c.is_removed-2.ensures ∙ c.if-is_removed-2.false;
      above = below;
      within = within;
      apart = apart;
      held = c.has_term.ensures.has.0 c.if-not-has_term.false;
      short = rw (← same_records c.chain-above.ensures) (let a = c.deltas.ensures in let b = c.if-deltas-ge-MANY_DELTAS.false in omega (arith, a, b));
      gone = sym (ap is_removed (same_records c.chain-gone.ensures)) ∙ sym c.is_removed-else-is_removed-2.ensures ∙ c.if-not-is_removed.false;
    })
