-- Removals among the records of a chain, and what is recalled of them.
use Rattle.std.proofs.Common.{◌≡◌, ◌<◌, ◌≤◌, ◌++◌, ◌||◌, ◌&&◌, not, inl, inr, ℕ, zero, suc, List, [], ◌∷◌, Bool, true, false, Option, None, Some, refl, sym, ◌∙◌, arith}
use Rattle.std.specs.Prelude.{if◌then◌else◌, is_some, ltb}
use Rattle.std.proofs.lemmas.Bool.{ltb-false}
use Rattle.bw_model.specs.declared.step.Answer.TheVariants as answer
use Rattle.bw_model.specs.declared.step.Step.TheVariants as step
use Rattle.round_model.proofs.Words.{Record, is_removed, level_in, Version, Slot, Row}
use Rattle.deltas.specs.declared.record.Record.TheVariants as kind
use Rattle.deltas.specs.Records.{level_after, next_row, removed_after}
use Rattle.traces.specs.chain.Fitted.{FitsOver, IsFitted}
use Rattle.traces.specs.discipline.Recalled.{IsPaid, Recalled, Walk, is_lower, is_removal, note, recall, removal_level}
use Rattle.round_model.specs.Walks.{AreRemovalsAbove, HasRemovalAt, IsRoundLast, IsUnderRemoval, IsUnderLast}

-- booleans

pub or_true : (b : Bool) → (b || true) ≡ true
or_true true = refl
or_true false = refl

and_left : (a b : Bool) → (a && b) ≡ true → a ≡ true
and_left true b e = refl
and_left false b e = absurd cc

or_swap : (a b c : Bool) → (a || (b || c)) ≡ (b || (a || c))
or_swap true true c = refl
or_swap other others c = refl

-- one record more, that is a removal or not, and a cause or not
pub told_more : (b l p t : Bool) → (l ≡ true → b ≡ true) → (b || (p || t)) ≡ ((if l then false else p) || (b || t))
told_more true true p t h = refl
told_more false true p t h = let e = h refl in absurd cc
told_more b false p t h = or_swap b p t

pub not_passed : (l p : Bool) → p ≡ false → (if l then false else p) ≡ false
not_passed true p e = refl
not_passed false p e = e

-- where it counts as gone on from the last cause, the record was none
pub went_on : (l p : Bool) → (if l then false else p) ≡ true → (l ≡ false) × (p ≡ true)
went_on true p e = absurd cc
went_on false p e = (refl, e)

was_gone : (b m x : Bool) → (b && (not m || x)) ≡ false → (b || m) ≡ true → m ≡ true
was_gone b true x e g = refl
was_gone true false x e g = absurd cc
was_gone false false x e g = absurd cc

-- a cause

pub lower_removes : (content : Record) (walk : Walk) → is_lower content walk ≡ true → is_removal content ≡ true
lower_removes content walk e = and_left (is_removal content) (not walk.removed || ltb (removal_level content) walk.level) e

pub lower_first : (content : Record) (walk : Walk) → is_removal content ≡ true → walk.removed ≡ false → is_lower content walk ≡ true
lower_first content walk gone none = rw (gone, none) refl

or_none : (s t : Bool) → (s || t) ≡ false → t ≡ false
or_none true t e = absurd cc
or_none false t e = e

pub not_lower : (content : Record) (walk : Walk) → is_lower content walk ≡ false → is_removal content ≡ true → walk.level ≤ removal_level content
not_lower content walk e gone =
    let both : (not walk.removed || ltb (removal_level content) walk.level) ≡ false = rw gone at e in
    ltb-false (removal_level content) walk.level (or_none (not walk.removed) (ltb (removal_level content) walk.level) both)

pub paid_lower : (r : Recalled) (row : ℕ) (content : Record) → is_lower content r.walk ≡ true → r.walk.rooted ≡ true → IsPaid r (step.Row row) (answer.Content content)
paid_lower r row (kind.Remove remove) e rooted = (rooted, e)
paid_lower r row other e rooted = cc

-- a base is none
pub base_is_none : (content : Record) (walk : Walk) → next_row content ≡ None → is_lower content walk ≡ false
base_is_none (kind.Base base) walk e = refl
base_is_none other walk e = cc

-- the level of the last cause

removal_last : (part : List Record) (content : Record) → is_removal content ≡ true → HasRemovalAt (part ++ content ∷ []) (removal_level content)
removal_last [] content e = inl (e, refl)
removal_last (first ∷ part) content e = inr (removal_last part content e)

removal_before : (part : List Record) (content : Record) (level : ℕ) → HasRemovalAt part level → HasRemovalAt (part ++ content ∷ []) level
removal_before [] content level h = absurd h
removal_before (first ∷ part) content level h = elim h [ inl here ↦ inl here | inr there ↦ inr (removal_before part content level there) ]

pub level_noted : (walk : Walk) (part : List Record) (content : Record) → (walk.removed ≡ true → walk.passed ≡ false → HasRemovalAt part walk.level)
    → (note content walk).removed ≡ true → (note content walk).passed ≡ false → HasRemovalAt (part ++ content ∷ []) (note content walk).level
level_noted walk part content before = by_test (is_lower content walk) refl
  where
    by_test : (l : Bool) → is_lower content walk ≡ l → (is_removal content || walk.removed) ≡ true → (if l then false else walk.passed) ≡ false
        → HasRemovalAt (part ++ content ∷ []) (if l then removal_level content else walk.level)
    by_test true e gone none = removal_last part content (lower_removes content walk e)
    by_test false e gone none = removal_before part content walk.level (before (was_gone (is_removal content) walk.removed (ltb (removal_level content) walk.level) e gone) none)

-- removals of a chain that fits

delta_level : (newest : Record) (under : ℕ) → is_some (next_row newest) ≡ true → level_after newest under ≡ under
delta_level (kind.Base base) under e = cc
delta_level other under e = refl

delta_removed : (newest : Record) (under : Bool) → is_some (next_row newest) ≡ true → is_removal newest ≡ false → removed_after newest under ≡ under
delta_removed (kind.Base base) under e none = cc
delta_removed (kind.Remove remove) under e none = cc
delta_removed other under e none = refl

removal_fits : (newest : Record) (under : List Record) → FitsOver under newest → is_removal newest ≡ true → removal_level newest ≡ level_in under
removal_fits (kind.Remove remove) under fit e = sym fit.fits.level ∙ fit.makes.level
removal_fits other under fit e = cc

-- are of its level
pub removal_is_at : (chain : List Record) (level : ℕ) → IsFitted chain → HasRemovalAt chain level → level ≡ level_in chain
removal_is_at [] level fit h = absurd h
removal_is_at (newest ∷ []) level fit h = elim h [ inl here ↦ absurd (let gone = here.0 in let none : ◌≡◌ {A = Bool} false true = rw fit.1 at gone in cc) | inr none ↦ absurd none ]
removal_is_at (newest ∷ older ∷ under) level fit h =
    let same = delta_level newest (level_in (older ∷ under)) fit.0.delta in
    elim h [
      | inl here ↦ sym here.1 ∙ removal_fits newest (older ∷ under) fit.0 here.0 ∙ sym same
      | inr there ↦ removal_is_at (older ∷ under) level fit.1 there ∙ sym same
    ]

-- a removed chain of a level has one that isn't above it
pub removal_above : (chain : List Record) (level : ℕ) → IsFitted chain → is_removed chain ≡ true → AreRemovalsAbove level chain → level < level_in chain
removal_above [] level fit gone h = absurd fit
removal_above (newest ∷ []) level fit gone h = let none : ◌≡◌ {A = Bool} false true = rw fit.1 at gone in absurd cc
removal_above (newest ∷ older ∷ under) level fit gone h =
    by_test (is_removal newest) refl (delta_level newest (level_in (older ∷ under)) fit.0.delta) (λ below. removal_above (older ∷ under) level fit.1 below h.1)
  where
    by_test : (b : Bool) → is_removal newest ≡ b → level_after newest (level_in (older ∷ under)) ≡ level_in (older ∷ under)
        → (is_removed (older ∷ under) ≡ true → level < level_in (older ∷ under)) → level < level_after newest (level_in (older ∷ under))
    by_test true e same rest =
        let less = h.0 e in
        let at = removal_fits newest (older ∷ under) fit.0 e in
        omega (arith, less, at, same)
    by_test false e same rest =
        let below = rest (sym (delta_removed newest (is_removed (older ∷ under)) fit.0.delta e) ∙ gone) in
        omega (arith, below, same)

-- what a round recalls that has met a removed page

all_push : (level : ℕ) (part : List Record) (content : Record) → AreRemovalsAbove level part → (is_removal content ≡ true → level < removal_level content)
    → AreRemovalsAbove level (part ++ content ∷ [])
all_push level [] content h last = (last, tt)
all_push level (first ∷ part) content h last = (h.0, all_push level part content h.1 last)

under_push : (above : Option Version) (level last : ℕ) (part : List Record) (content : Record) → (is_removal content ≡ true → last ≤ removal_level content)
    → IsUnderRemoval above level last part → IsUnderRemoval above level last (part ++ content ∷ [])
under_push None level last part content most h = h
under_push (Some above) level last part content most h = (h.0, all_push level part content h.1 (λ gone. let low = h.0 in let high = most gone in omega (arith, low, high)))

pub under_row : (above : Option Version) (level : ℕ) (earlier : List ℕ) (walk : Walk) (part : List Record) (content : Record) (head row next : ℕ)
    → IsUnderLast above level earlier walk part (Row head row)
    → IsUnderLast above level earlier (note content walk) (part ++ content ∷ []) (Row head next)
under_row above level earlier walk part content head row next h = (
  h.0,
  rw h.1 (or_true (is_removal content)),
  λ e. let both = went_on (is_lower content walk) walk.passed e in
      rw both.0 (under_push above level walk.level part content (not_lower content walk both.0) (h.2 both.1)),
)

pub round_row : (removed : Version) (walk : Walk) (content : Record) (head row next : ℕ) → IsRoundLast removed walk (Row head row) → IsRoundLast removed (note content walk) (Row head next)
round_row removed walk content head row next h = (rw h.0 (or_true (is_removal content)), λ e. let both = went_on (is_lower content walk) walk.passed e in rw both.0 (h.1 both.1))

-- a slot is read
module _ (r : Recalled) (row : ℕ) where
  pub under_slot : (pid : ℕ) (above : Option Version) (level : ℕ) (earlier : List ℕ) → 0 < pid → IsUnderLast above level earlier r.walk [] Slot
      → IsUnderLast above level earlier (recall r (step.Slot pid) (answer.Number row)).walk [] (Row row row)
  under_slot zero above level earlier some h = absurd (omega (arith, some))
  under_slot (suc pid) above level earlier some h = (h.0, h.1, λ e. h.2)

  pub round_slot : (pid : ℕ) (removed : Version) → 0 < pid → IsRoundLast removed r.walk Slot → IsRoundLast removed (recall r (step.Slot pid) (answer.Number row)).walk (Row row row)
  round_slot zero removed some h = absurd (omega (arith, some))
  round_slot (suc pid) removed some h = (h.0, λ e. h.1)
