-- A function or a list with one value replaced, or a list with one more.
use Rattle.std.proofs.Common.{◌≡◌, ◌≢◌, ◌<◌, ◌⊎◌, inl, inr, ℕ, zero, suc, List, [], ◌∷◌, ◌++◌, length, Some, set, get_or, refl, sym, ap, subst, ◌∙◌, arith}
use Rattle.std.proofs.lemmas.Option.{same_Some}
use Rattle.std.specs.Prelude.{slice_get}

pub get_is : {X : Type 0} (xs : List X) (i : ℕ) (x : X) → i < length xs → x ≡ get_or xs i x → slice_get xs i ≡ Some x
get_is [] i x h e = absurd (omega arith)
get_is (y ∷ xs) zero x h e = ap Some (sym e)
get_is (y ∷ xs) (suc i) x h e = get_is xs i x (omega arith) e

-- what stands at one place is one
pub get_same : {X : Type 0} (xs : List X) (i j : ℕ) (x y : X) → i ≡ j → i < length xs → x ≡ get_or xs i x → y ≡ get_or xs j y → x ≡ y
get_same xs i j x y same h e f = same_Some x y (sym (get_is xs i x h e) ∙ get_is xs i y h (subst (λ k. y ≡ get_or xs k y) (sym same) f))

pub set_cases : {X : Type 0} (xs : List X) (i : ℕ) (x : X) (a : ℕ) (y : X) → slice_get (set xs i x) a ≡ Some y → ((a ≡ i) × (y ≡ x)) ⊎ ((a ≢ i) × (slice_get xs a ≡ Some y))
set_cases [] i x a y e = cc
set_cases (z ∷ xs) zero x zero y e = inl (refl, cc)
set_cases (z ∷ xs) zero x (suc a) y e = inr ((λ same. absurd (omega arith)), e)
set_cases (z ∷ xs) (suc i) x zero y e = inr ((λ same. absurd (omega arith)), e)
set_cases (z ∷ xs) (suc i) x (suc a) y e = elim (set_cases xs i x a y e) [ inl h ↦ inl (ap suc h.0, h.1) | inr h ↦ inr ((λ same. h.0 (omega arith)), h.1) ]

pub set_other : {X : Type 0} (xs : List X) (i : ℕ) (x : X) (a : ℕ) → a ≢ i → slice_get (set xs i x) a ≡ slice_get xs a
set_other [] i x a other = refl
set_other (z ∷ xs) zero x zero other = absurd (other refl)
set_other (z ∷ xs) zero x (suc a) other = refl
set_other (z ∷ xs) (suc i) x zero other = refl
set_other (z ∷ xs) (suc i) x (suc a) other = set_other xs i x a (λ same. other (ap suc same))

pub set_length : {X : Type 0} (xs : List X) (i : ℕ) (x : X) → length (set xs i x) ≡ length xs
set_length [] i x = refl
set_length (z ∷ xs) zero x = refl
set_length (z ∷ xs) (suc i) x = ap suc (set_length xs i x)

-- what stands in the longer list stood in the shorter one, or is the new value
pub push_cases : {X : Type 0} (xs : List X) (x : X) (a : ℕ) (y : X) → slice_get (xs ++ x ∷ []) a ≡ Some y → (slice_get xs a ≡ Some y) ⊎ (y ≡ x)
push_cases [] x zero y e = inr (cc)
push_cases [] x (suc a) y e = cc
push_cases (z ∷ xs) x zero y e = inl e
push_cases (z ∷ xs) x (suc a) y e = push_cases xs x a y e
