-- The place that is found is the latest one.
use Rattle.std.proofs.Common.{◌≡◌, ◌<◌, ◌≤◌, ◌⊎◌, inl, inr, ℕ, zero, suc, List, Bool, true, false, Option, None, Some, ap, arith, refl, take, ◌∙◌}
use Rattle.std.proofs.Math.Nat.{le-suc_iff}
use Rattle.std.specs.Prelude.{if◌then◌else◌}
use Rattle.bw_model.specs.Log.{Update}
use Rattle.bw_model.specs.declared.command.Command.{Command}
use Rattle.bw_model.specs.declared.command.Reply.{Reply}
use Rattle.filming.specs.Places.{is_told, place_below}

module _ (log : List Update) (command : Command) (answer : Reply) where
  abbrev holds : ℕ → Bool
  holds place = is_told (take place log) command answer

  abbrev IsLatest : ℕ → ℕ → Type 0
  IsLatest many place = (place ≤ many) × (holds place ≡ true) × ((later : ℕ) → place < later → later ≤ many → holds later ≡ false)

  -- one place of a test, and the others before it
  one_more : (many place : ℕ) (before : Option ℕ) (b : Bool) → holds (suc many) ≡ b → (before ≡ Some place → IsLatest many place)
      → (if b then Some (suc many) else before) ≡ Some place → IsLatest (suc many) place
  one_more many place before true is earlier e =
      let same : place ≡ suc many = cc in (omega (arith, same), ap holds same ∙ is, (λ later above most. absurd (omega (arith, same, above, most))))
  one_more many place before false is earlier e =
      let (few, told, none) = earlier e in (omega (arith, few), told, (λ later above most. by_last later above (le-suc_iff.0 most)))
    where
      by_last : (later : ℕ) → place < later → (later ≤ many) ⊎ (later ≡ suc many) → holds later ≡ false
      by_last later above (inl less) = (earlier e).2 later above less
      by_last later above (inr last) = ap holds last ∙ is

  pub latest : (many place : ℕ) → place_below log command answer many ≡ Some place → IsLatest many place
  latest zero place e = by_first (holds 0) refl e
    where
      by_first : (b : Bool) → holds 0 ≡ b → ◌≡◌ {A = Option ℕ} (if b then Some 0 else None) (Some place) → IsLatest 0 place
      by_first true is e = let same : place ≡ 0 = cc in (omega (arith, same), ap holds same ∙ is, (λ later above most. absurd (omega (arith, above, most))))
      by_first false is e = cc
  latest (suc many) place e = one_more many place (place_below log command answer many) (holds (suc many)) refl (latest many place) e

  pub nowhere : (many : ℕ) → place_below log command answer many ≡ None → (place : ℕ) → place ≤ many → holds place ≡ false
  nowhere zero e place few = by_first (holds 0) refl e
    where
      by_first : (b : Bool) → holds 0 ≡ b → ◌≡◌ {A = Option ℕ} (if b then Some 0 else None) None → holds place ≡ false
      by_first true is e = cc
      by_first false is e = (let first : place ≡ 0 = omega (arith, few) in ap holds first ∙ is)
  nowhere (suc many) e place few = by_last (λ none less. nowhere many none place less) (holds (suc many)) refl e (le-suc_iff.0 few)
    where
      by_last : (place_below log command answer many ≡ None → place ≤ many → holds place ≡ false) → (b : Bool) → holds (suc many) ≡ b
          → (if b then Some (suc many) else place_below log command answer many) ≡ None → (place ≤ many) ⊎ (place ≡ suc many) → holds place ≡ false
      by_last before true is e less = cc
      by_last before false is e (inl less) = before e less
      by_last before false is e (inr last) = ap holds last ∙ is
