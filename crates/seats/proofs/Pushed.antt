-- A list with one element more, where there was memory for it, and a list whose last element is taken.
use Rattle.std.proofs.Common.{◌≡◌, ℕ, zero, suc, List, [], ◌∷◌, ◌++◌, ◌+◌, All, Some, ap, arith, drop, length, refl, subst, take, ◌∙◌}
use Rattle.std.specs.Prelude.{IfSome, None, Option, option_to_list, slice_get}
use Rattle.std.proofs.lemmas.List.{length-append}
use Rattle.std.proofs.lemmas.Option.{same_Some}
use Rattle.traces.proofs.Pushes.{take-push_whole}

-- one element more
pub one_longer : {X : Type 0} (xs ys : List X) (last : X) → ys ≡ xs ++ last ∷ [] → length ys ≡ length xs + 1
one_longer xs ys last more = ap length more ∙ length-append xs (last ∷ [])

-- what holds of each element of a list, and of one more, holds of each of both
pub all_pushed : {X : Type 0} (P : X → Type 0) (xs : List X) (last : X) → ((n : ℕ) (x : X) → slice_get xs n ≡ Some x → P x) → P last
    → (n : ℕ) (x : X) → slice_get (xs ++ last ∷ []) n ≡ Some x → P x
all_pushed P [] last all one zero x e = subst P (same_Some last x e) one
all_pushed P [] last all one (suc n) x e = cc
all_pushed P (first ∷ xs) last all one zero x e = all zero x e
all_pushed P (first ∷ xs) last all one (suc n) x e = all_pushed P xs last (λ m y h. all (suc m) y h) one n x e

-- what holds of each element of two lists holds of each of the first
pub all_before : {X : Type 0} (P : X → Type 0) (xs ys : List X) → ((n : ℕ) (x : X) → slice_get (xs ++ ys) n ≡ Some x → P x) → (n : ℕ) (x : X) → slice_get xs n ≡ Some x → P x
all_before P [] ys all n x e = cc
all_before P (first ∷ xs) ys all zero x e = all zero x e
all_before P (first ∷ xs) ys all (suc n) x e = all_before P xs ys (λ m y h. all (suc m) y h) n x e

-- and of the last one, if it is taken
pub last_of : {X : Type 0} (P : X → Type 0) (xs : List X) (taken : Option X) → ((n : ℕ) (x : X) → slice_get (xs ++ option_to_list taken) n ≡ Some x → P x) → IfSome taken P
last_of P xs None all = tt
last_of P [] (Some x) all = all zero x refl
last_of P (first ∷ xs) (Some x) all = last_of P xs (Some x) (λ n y e. all (suc n) y e)

-- what holds of all holds of the one at a place
pub all_at : {X : Type 0} (P : X → Type 0) (xs : List X) → All P xs → (n : ℕ) (x : X) → slice_get xs n ≡ Some x → P x
all_at P [] all n x e = cc
all_at P (first ∷ xs) all zero x e = subst P (same_Some first x e) (all 0 first (omega arith))
all_at P (first ∷ xs) all (suc n) x e = all_at P xs (λ k d below. all (suc k) d (omega (arith, below))) n x e

-- what is written over a whole list stands in its place
pub written : {X : Type 0} (n : ℕ) (xs ys : List X) → n ≡ length xs → take n (xs ++ drop (length xs) ys) ≡ xs
written n xs ys long = ap (λ k. take k (xs ++ drop (length xs) ys)) long ∙ take-push_whole xs (drop (length xs) ys)

-- and one more element behind it
pub pushed_behind : {X : Type 0} (n : ℕ) (xs ys news : List X) (x y : X) → n ≡ length xs → news ≡ take n (xs ++ drop (length xs) ys) ++ x ∷ [] → x ≡ y → news ≡ xs ++ y ∷ []
pushed_behind n xs ys news x y long is same = is ∙ ap (λ z. z ++ x ∷ []) (written n xs ys long) ∙ ap (λ z. xs ++ z ∷ []) same
