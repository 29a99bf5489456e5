-- The first elements of a list.
use Rattle.std.proofs.Common.{◌≡◌, ◌+◌, ℕ, zero, suc, List, [], ◌∷◌, ◌++◌, take, drop, refl, ap, arith}

module _ {X : Type 0} where
  pub take_more : (n m k : ℕ) (xs : List X) → k ≡ n + m → take k xs ≡ take n xs ++ take m (drop n xs)
  take_more zero m k xs e = let f : k ≡ m = omega arith in ap (λ j. take j xs) f
  take_more (suc n) m zero xs e = absurd (omega arith)
  take_more (suc n) zero (suc k) [] e = refl
  take_more (suc n) (suc m) (suc k) [] e = refl
  take_more (suc n) m (suc k) (x ∷ xs) e = ap (λ ys. x ∷ ys) (take_more n m k xs (omega arith))
