-- What stands in the front of a list, and behind it.
use Rattle.std.proofs.Common.{◌≡◌, ◌<◌, ◌+◌, ℕ, zero, suc, List, [], ◌∷◌, None, drop, take, refl, ap, arith, ◌∙◌}
use Rattle.std.specs.Prelude.{slice_get}

pub get_take : {X : Type 0} (xs : List X) (m n : ℕ) → m < n → slice_get (take n xs) m ≡ slice_get xs m
get_take xs m zero lt = absurd (omega arith)
get_take [] m (suc n) lt = refl
get_take (x ∷ xs) zero (suc n) lt = refl
get_take (x ∷ xs) (suc m) (suc n) lt = get_take xs m n (omega arith)

pub get_drop : {X : Type 0} (xs : List X) (a j : ℕ) → slice_get (drop a xs) j ≡ slice_get xs (a + j)
get_drop xs zero j = ap (slice_get xs) (let e : j ≡ 0 + j = omega arith in e)
get_drop [] (suc a) j = refl
get_drop (x ∷ xs) (suc a) j = get_drop xs a j ∙ ap (slice_get (x ∷ xs)) (let e : suc (a + j) ≡ suc a + j = omega arith in e)

-- behind the end nothing is added
pub take_past : {X : Type 0} (xs : List X) (n : ℕ) → slice_get xs n ≡ None → take (suc n) xs ≡ take n xs
take_past [] zero e = refl
take_past [] (suc n) e = refl
take_past (x ∷ xs) zero e = cc
take_past (x ∷ xs) (suc n) e = ap (λ rest. x ∷ rest) (take_past xs n e)
