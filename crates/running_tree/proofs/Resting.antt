-- Seats at places, and whether they have operations.
use Rattle.std.proofs.Common.{◌≡◌, ◌<◌, ℕ, zero, suc, true, false, List, [], ◌∷◌, length, Option, Some, None, refl, sym, ap, arith}
use Rattle.std.specs.Prelude.{is_none, slice_get, slice_index_or}

pub at_index : {X : Type 0} (xs : List X) (n : ℕ) (x : X) → n < length xs → x ≡ slice_index_or xs n x → slice_get xs n ≡ Some x
at_index [] n x lt e = absurd (omega (arith, lt))
at_index (y ∷ ys) zero x lt e = ap Some (sym e)
at_index (y ∷ ys) (suc n) x lt e = at_index ys n x (omega (arith, lt)) e

pub get_one : {X : Type 0} (xs : List X) (n : ℕ) (x y : X) → slice_get xs n ≡ Some x → slice_get xs n ≡ Some y → x ≡ y
get_one xs n x y e f = cc

pub has_one : {X : Type 0} (o : Option X) → is_none o ≡ false → o ≡ None → ⊥
has_one None e none = cc
has_one (Some x) e none = cc

pub has_none : {X : Type 0} (o : Option X) → is_none o ≡ true → o ≡ None
has_none None e = refl
has_none (Some x) e = cc
