-- Chains with a removal: it is the newest record, and there is one at most.
use Rattle.progress.proofs.Words.{◌≡◌, ◌≤◌, ◌+◌, ◌++◌, ℕ, List, [], ◌∷◌, length, Bool, true, false, cond, None, Some, refl, sym, ap, ◌∙◌, arith, ◌||◌, Child, Record, is_removed, next_row}
use Rattle.progress.proofs.Words.{either, IsFitted}
use Rattle.std.proofs.Math.Bool.{or-false, or_assoc}
use Rattle.std.specs.declared.cmp.Ordering.TheVariants.{Less}
use Rattle.bw_model.specs.Bytes.{key_cmp}
use Rattle.base_page.specs.declared.item.Content.{Content}
use Rattle.base_page.specs.declared.item.Content.TheVariants.{Value}
use Rattle.base_page.specs.declared.item.Item.{Item}
use Rattle.base_page.specs.Pages.{content_at}
use Rattle.base_page.specs.Rules.{held_count, is_held}
use Rattle.base_page.proofs.ItemLaws.{Ascends, Ascends-from, of_content}
use Rattle.base_page.proofs.KeyLaws.{differs_above}
use Rattle.deltas.specs.declared.record.Record.TheVariants as kind
use Rattle.deltas.specs.Records.{removed_after}
use Rattle.traces.proofs.FittedLaws.{found_first}
use Rattle.traces.specs.chain.Fitted.{FitsOver}
use Rattle.traces.specs.chain.Unheld.{IsUnheld}
use Rattle.traces.specs.discipline.Recalled.{is_removal}
use Rattle.structure_changes.proofs.Places.{from_made, made}
use Rattle.structure_changes.proofs.Removed.{few_removed}
use Rattle.structure_changes.specs.Sizes.{HasItems, HasNoneHeld}

-- nothing fits over a removed page
none_over : (newest : Record) (under : List Record) → FitsOver under newest → is_removed under ≡ true → ⊥
none_over (kind.Base page) under f e = let d = f.delta in cc
none_over other under f e = let alive = f.fits.alive in let is = f.makes.removed in cc

over_gone : (newest : Record) (under : List Record) → IsFitted (newest ∷ under) → is_removed under ≡ true → ⊥
over_gone newest [] fitted e = cc
over_gone newest (older ∷ under) fitted e = none_over newest (older ∷ under) fitted.0 e

removed_by : (content : Record) (before : Bool) → is_removal content ≡ true → removed_after content before ≡ true
removed_by (kind.Remove remove) before e = refl
removed_by other before e = absurd (cc)

-- whether one of the records is a removal
abbrev pub has_removal : List Record → Bool
has_removal [] = false
has_removal (content ∷ part) = is_removal content || has_removal part

-- a removal is the newest record
removal_newest : (part rest : List Record) (content : Record) → IsFitted (part ++ content ∷ rest) → is_removal content ≡ true → part ≡ []
removal_newest [] rest content fitted e = refl
removal_newest (newest ∷ []) rest content fitted e = absurd (over_gone newest (content ∷ rest) fitted (removed_by content (is_removed rest) e))
removal_newest (newest ∷ older ∷ part) rest content fitted e = let none : older ∷ part ≡ [] = removal_newest (older ∷ part) rest content fitted.1 e in absurd (cc)

-- a page of which a removal was read is removed
pub gone_read : (part rest : List Record) → IsFitted (part ++ rest) → has_removal part ≡ true → is_removed (part ++ rest) ≡ true
gone_read [] rest fitted e = absurd (cc)
gone_read (content ∷ []) rest fitted e = either (is_removal content)
    (λ here. removed_by content (is_removed rest) here)
    (λ other. absurd (let both : false ≡ true = rw other at e in cc))
gone_read (content ∷ older ∷ part) rest fitted e = either (is_removal content)
    (λ here. removed_by content (is_removed (older ∷ (part ++ rest))) here)
    (λ other.
    let there : has_removal (older ∷ part) ≡ true = rw other at e in
    absurd (over_gone content (older ∷ (part ++ rest)) fitted (gone_read (older ∷ part) rest fitted.1 there)))

has_pushed : (part : List Record) (content : Record) → has_removal (part ++ content ∷ []) ≡ has_removal part || is_removal content
has_pushed [] content = or-false (is_removal content)
has_pushed (newest ∷ part) content = rw (has_pushed part content) (sym (or_assoc (is_removal newest) (has_removal part) (is_removal content)))

or_none : (a b : Bool) → b ≡ false → (a || b) ≡ a
or_none true b none = refl
or_none false b none = none

-- how often a removal is read yet of a page: not of one that isn't removed, nor once it was read
abbrev pub owed : Bool → Bool → ℕ
owed false read = 0
owed true true = 0
owed true false = 1

pub owed_one : (gone read : Bool) → owed gone read ≤ 1
owed_one false read = omega arith
owed_one true true = omega arith
owed_one true false = omega arith

-- the next record of a page pays what is owed, where it is a removal
pub owed_next : (part rest : List Record) (content : Record) → IsFitted (part ++ content ∷ rest)
    → owed (is_removed (part ++ content ∷ rest)) (has_removal (part ++ content ∷ [])) + cond (is_removal content) 1 0 ≤ owed (is_removed (part ++ content ∷ rest)) (has_removal part)
owed_next part rest content fitted = either (is_removal content) removal other
  where
    Goal : Type 0
    Goal = owed (is_removed (part ++ content ∷ rest)) (has_removal (part ++ content ∷ [])) + cond (is_removal content) 1 0 ≤ owed (is_removed (part ++ content ∷ rest)) (has_removal part)

    removal : is_removal content ≡ true → Goal
    removal e =
        let none = removal_newest part rest content fitted e in
        let gone : is_removed (part ++ content ∷ rest) ≡ true = rw none (removed_by content (is_removed rest) e) in
        let before : has_removal part ≡ false = ap has_removal none in
        let after : has_removal (part ++ content ∷ []) ≡ true = has_pushed part content ∙ (rw (before, e) refl) in
        let le : 0 + 1 ≤ 1 = omega arith in
        rw (gone, before, after, e) le

    other : is_removal content ≡ false → Goal
    other e =
        let same : has_removal (part ++ content ∷ []) ≡ has_removal part = has_pushed part content ∙ or_none (has_removal part) (is_removal content) e in
        let le : owed (is_removed (part ++ content ∷ rest)) (has_removal part) + 0 ≤ owed (is_removed (part ++ content ∷ rest)) (has_removal part) = omega arith in
        rw (same, e) le

-- the same where the page's chain isn't known: a removal is read once at most
pub once_next : (part rest : List Record) (content : Record) → IsFitted (part ++ content ∷ rest)
    → cond (has_removal part) 1 0 + cond (is_removal content) 1 0 ≤ cond {A = ℕ} (has_removal (part ++ content ∷ [])) 1 0
once_next part rest content fitted = either (is_removal content) removal other
  where
    Goal : Type 0
    Goal = cond (has_removal part) 1 0 + cond (is_removal content) 1 0 ≤ cond {A = ℕ} (has_removal (part ++ content ∷ [])) 1 0

    removal : is_removal content ≡ true → Goal
    removal e =
        let none = removal_newest part rest content fitted e in
        let before : has_removal part ≡ false = ap has_removal none in
        let after : has_removal (part ++ content ∷ []) ≡ true = has_pushed part content ∙ (rw (before, e) refl) in
        let le : 0 + 1 ≤ 1 = omega arith in
        rw (before, after, e) le

    other : is_removal content ≡ false → Goal
    other e =
        let same : has_removal (part ++ content ∷ []) ≡ has_removal part = has_pushed part content ∙ or_none (has_removal part) (is_removal content) e in
        let le : cond {A = ℕ} (has_removal part) 1 0 + 0 ≤ cond {A = ℕ} (has_removal part) 1 0 = omega arith in
        rw (same, e) le

-- the last record of a chain is none
pub last_stands : (content : Record) → next_row content ≡ None → is_removal content ≡ false
last_stands (kind.Remove remove) e = absurd (cc)
last_stands other e = refl

-- the items of a removed page are few
pub few_gone : (chain : List Record) → IsFitted chain → is_removed chain ≡ true → HasItems chain (λ items. length items ≤ 4)
few_gone chain fitted gone = let m = made chain fitted in from_made chain m.0 (λ items. length items ≤ 4) m.1 (few_removed chain m.0 fitted gone m.1)

none_held : (items : List Item) → Ascends items → ((key : List ℕ) (child : ℕ) → content_at items key ≡ Some (Child child true) → ⊥) → held_count items ≡ 0
none_held [] ascends free = refl
none_held (item ∷ items) ascends free =
    let rest = none_held items ascends.1 (λ key child e.
    let over : key_cmp item.key key ≡ Less = of_content (λ (each : Item). key_cmp item.key each.key ≡ Less) items key (Child child true) ascends.0 e in
    free key child (rw (differs_above item.key key over) e))
    in
    rw (by_content item.content refl, rest) refl
  where
    by_content : (content : Content) → item.content ≡ content → is_held item.content ≡ false
    by_content (Value value) e = ap is_held e
    by_content (Child page false) e = ap is_held e
    by_content (Child page true) e = absurd (free item.key page (found_first item items ∙ ap Some e))

-- where no term is held, no item is
pub unheld_items : (chain : List Record) → IsFitted chain → IsUnheld chain → HasNoneHeld chain
unheld_items chain fitted free =
    let m = made chain fitted in
    from_made chain m.0 (λ items. held_count items ≡ 0) m.1
    (none_held m.0.items (Ascends-from m.0.items m.1.items.ascending) (λ key child e. free key child (sym (m.1.items.contents key) ∙ e)))
