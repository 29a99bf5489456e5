use Rattle.std.proofs.Common.{◌≡◌, ◌≤◌, ◌+◌, ◌==◌, ℕ, suc, List, [], ◌∷◌, length, Bool, true, false, None, refl, sym, ap, ◌∙◌, arith}
use Rattle.structure_changes.proofs.Words.{IsTrue, is_below, Child, Item, Record, IsPid, is_removed, level_in, low_in}
use Rattle.std.proofs.lemmas.Bool.{eqb-true}
use Rattle.deltas.specs.declared.record.Record.TheVariants as kind
use Rattle.structure_changes.proofs.RootFits.{planned, root_stands, some}
use Rattle.structure_changes.proofs.Places.{same_records}
use Rattle.structure_changes.proofs.root.plan_root.Goals as goal

no_bytes : (key : List ℕ) → (length key == 0) ≡ true → key ≡ []
no_bytes [] e = refl
no_bytes (x ∷ xs) e = let none = eqb-true (length (x ∷ xs)) 0 e in absurd (omega (arith, none))

empty_low : {chain read : List Record} {low bytes : List ℕ} {empty : Bool} → read ≡ chain → low ≡ low_in read → bytes ≡ low
    → empty ≡ (length bytes == 0) → empty ≡ true → low_in chain ≡ []
empty_low {bytes = bytes} same low is said empty = sym (ap low_in same) ∙ sym low ∙ sym is ∙ no_bytes bytes (sym said ∙ empty)

pub two_terms-items-requires : goal.two_terms-items-requires
two_terms-items-requires g c =
    let lowest = empty_low (same_records c.chain-chain.ensures) c.low.ensures.low c.as_slice.ensures.bytes c.is_empty.ensures c.if-not-is_empty.false in
    let fitted = rw c.chain-chain.ensures at c.keeps_rules.ensures.fitted in
    rw (c.low-separator.ensures.low, c.chain-beside.ensures) (some c.args.left.now c.args.right.now fitted lowest (c.is_next_to.ensures.next.0 c.if-not-is_next_to.false))

pub new-requires : goal.new-requires
new-requires g c =
    let lowest = empty_low (same_records c.chain-chain.ensures) c.low.ensures.low c.as_slice.ensures.bytes c.is_empty.ensures c.if-not-is_empty.false in
    let fitted = rw c.chain-chain.ensures at c.keeps_rules.ensures.fitted in
    let above : IsTrue (is_below [] c.low-separator.result) = rw (c.low-separator.ensures.low, c.chain-beside.ensures)
    (some c.args.left.now c.args.right.now fitted lowest (c.is_next_to.ensures.next.0 c.if-not-is_next_to.false)) in
    let level : c.level-2.result + 1 ≤ 15 = (let low = c.if-level-ge-TOP_LEVEL.false in let a = c.level.ensures in let b = c.level-2.ensures in omega (arith, low, a, b)) in
    let left : IsPid c.pid.result = rw c.pid.ensures c.args.left.now.is_pid in
    let right : IsPid c.pid-2.result = rw c.pid-2.ensures c.args.right.now.is_pid in
    rw (c.default.ensures, c.two_terms-items.ensures)
    (root_stands (c.level-2.result + 1) c.pid.result c.low-separator.result c.pid-2.result left right (omega arith) level above).ruled.is_page

pub returns-clause-plan : goal.returns-clause-plan
returns-clause-plan g c =
    let lowest = empty_low (same_records c.chain-chain.ensures) c.low.ensures.low c.as_slice.ensures.bytes c.is_empty.ensures c.if-not-is_empty.false in
    let fitted = rw c.chain-chain.ensures at c.keeps_rules.ensures.fitted in
    let level : c.level-2.result + 1 ≡ suc (level_in c.args.left.now.chain) = rw (← same_records c.chain-chain.ensures) (let a = c.level-2.ensures in omega (arith, a)) in
    let terms : ℕ → List ℕ → ℕ → List Item = λ left key right. record { key = []; content = Child left false } ∷ record { key = key; content = Child right false } ∷ [] in
    let low = c.low-separator.ensures.low ∙ ap low_in (same_records c.chain-beside.ensures) in
    let items = c.two_terms-items.ensures ∙ (λ i. terms (c.pid.ensures i) (low i) (c.pid-2.ensures i)) in
    planned c.args.left.now c.args.right.now c.new.result fitted
    (ap kind.Base (c.new.ensures ∙ (λ i. record { level = level i; low = c.default.ensures i; high = None; right = None; removed = false; items = items i })))
    (record {
      lowest = lowest;
      next_to = c.is_next_to.ensures.next.0 c.if-not-is_next_to.false;
      alive = sym (ap is_removed (same_records c.chain-beside.ensures)) ∙ sym c.is_removed.ensures ∙ c.if-is_removed.false;
      top = rw (← same_records c.chain-chain.ensures) (let a = c.level.ensures in let b = c.if-level-ge-TOP_LEVEL.false in omega (arith, a, b));
    })
