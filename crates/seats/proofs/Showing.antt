-- Seats to which one seat's note is shown, one after another.
use Rattle.std.proofs.Common.{◌≡◌, ◌<◌, ◌≤◌, ◌+◌, ℕ, zero, suc, List, [], ◌∷◌, Some, ap, arith, length, refl, slice_set, subst, sym, ◌∙◌}
use Rattle.std.specs.Prelude.{slice_get}
use Rattle.std.proofs.lemmas.Option.{same_Some}
use mathlib.Core.Logic.{dite}
use native.Mathlib.Decide.{ℕ_discrete}
use Rattle.running_tree.specs.Notes.{HasHeeded, Note}
use Rattle.running_tree.specs.Runs.{IsOneHistory}
use Rattle.running_tree.specs.Seats.{Seat}
use Rattle.seats.proofs.Seeing.{get_one}

pub set_count : {X : Type 0} (xs : List X) (n : ℕ) (x : X) → length (slice_set xs n x) ≡ length xs
set_count [] n x = refl
set_count (y ∷ ys) zero x = refl
set_count (y ∷ ys) (suc n) x = ap suc (set_count ys n x)

set_at : {X : Type 0} (xs : List X) (n : ℕ) (x y : X) → slice_get (slice_set xs n x) n ≡ Some y → x ≡ y
set_at [] n x y e = cc
set_at (z ∷ zs) zero x y e = same_Some x y e
set_at (z ∷ zs) (suc n) x y e = set_at zs n x y e

set_apart : {X : Type 0} (xs : List X) (n : ℕ) (x : X) (m : ℕ) → (m ≡ n → ⊥) → slice_get (slice_set xs n x) m ≡ slice_get xs m
set_apart [] n x m apart = refl
set_apart (y ∷ ys) zero x zero apart = absurd (apart refl)
set_apart (y ∷ ys) zero x (suc m) apart = refl
set_apart (y ∷ ys) (suc n) x zero apart = refl
set_apart (y ∷ ys) (suc n) x (suc m) apart = set_apart ys n x m (λ same. apart (ap suc same))

-- The seats before a place have heeded the note; the others are as they were.
pub record HaveHeededBefore (note : Note) (place : ℕ) (old new : List Seat) : Type 0 where
  pub count : length new ≡ length old
  pub each : (n : ℕ) (before after : Seat) → n < place → slice_get old n ≡ Some before → slice_get new n ≡ Some after → HasHeeded before note after × IsOneHistory after.limits after.seen
  pub rest : (n : ℕ) → place ≤ n → slice_get new n ≡ slice_get old n

pub none_heeded : (note : Note) (seats : List Seat) → HaveHeededBefore note 0 seats seats
none_heeded note seats = record {
  count = refl;
  each = λ n before after below at at_new. absurd (omega (arith, below));
  rest = λ n from. refl;
}

-- and so has the one at the place
pub heeded_one_more : (note : Note) (place : ℕ) (old mid : List Seat) (at new : Seat) → slice_get mid place ≡ Some at → HasHeeded at note new
    → IsOneHistory new.limits new.seen → HaveHeededBefore note place old mid
    → HaveHeededBefore note (place + 1) old (slice_set mid place new)
heeded_one_more note place old mid at new there heeds history h = record {
  count = set_count mid place new ∙ h.count;
  each = λ n before after below at_old at_new. dite (ℕ_discrete n place)
      (λ same.
      let was : slice_get old place ≡ Some before = ap (slice_get old) (sym same) ∙ at_old in
      let is : at ≡ before = get_one mid place at before there (h.rest place (omega arith) ∙ was) in
      let now : new ≡ after = set_at mid place new after (ap (slice_get (slice_set mid place new)) (sym same) ∙ at_new) in
      subst (λ z. HasHeeded before note z × IsOneHistory z.limits z.seen) now (subst (λ z. HasHeeded z note new) is heeds, history))
      (λ apart. h.each n before after (omega (arith, below, apart)) at_old (sym (set_apart mid place new n apart) ∙ at_new));
  rest = λ n from. set_apart mid place new n (λ same. absurd (omega (arith, from, same))) ∙ h.rest n (omega (arith, from));
}
