-- A list with one element more before the others.
use Rattle.std.proofs.Common.{◌≡◌, ℕ, zero, suc, List, Some, subst}
use Rattle.std.specs.Prelude.{Bool, true, false, if◌then◌else◌, slice_get}
use Rattle.std.specs.List.{insert}
use Rattle.std.proofs.lemmas.Option.{same_Some}

-- what holds of each element of a list, and of one more, holds of each where that one comes before the others
pub all_inserted : {X : Type 0} (P : X → Type 0) (xs : List X) (first : X) → ((n : ℕ) (x : X) → slice_get xs n ≡ Some x → P x) → P first
    → (n : ℕ) (x : X) → slice_get (insert xs 0 first) n ≡ Some x → P x
all_inserted P xs first all one zero x e = subst P (same_Some first x e) one
all_inserted P xs first all one (suc n) x e = all n x e

-- and where there may have been no memory for it
pub all_maybe_inserted : {X : Type 0} (P : X → Type 0) (xs : List X) (first : X) (went : Bool) → ((n : ℕ) (x : X) → slice_get xs n ≡ Some x → P x) → P first
    → (n : ℕ) (x : X) → slice_get (if went then insert xs 0 first else xs) n ≡ Some x → P x
all_maybe_inserted P xs first true all one = all_inserted P xs first all one
all_maybe_inserted P xs first false all one = all
