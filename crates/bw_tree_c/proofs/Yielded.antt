-- What holds of each element of a list holds of the one that a loop yields.
use Rattle.std.proofs.Common.{◌≡◌, ◌<◌, ℕ, zero, suc, List, [], ◌∷◌, Some, arith, get_or, length, refl, subst, sym}
use Rattle.std.specs.Prelude.{slice_get}

pub of_all : {X : Type 0} (P : X → Type 0) (xs : List X) → ((n : ℕ) (x : X) → slice_get xs n ≡ Some x → P x) → (n : ℕ) (x : X) → n < length xs → x ≡ get_or xs n x → P x
of_all P [] all n x below is = absurd (omega (arith, below))
of_all P (y ∷ ys) all zero x below is = subst P (sym is) (all zero y refl)
of_all P (y ∷ ys) all (suc n) x below is = of_all P ys (λ m z e. all (suc m) z e) n x (omega (arith, below)) is
