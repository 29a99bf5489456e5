-- What lives are worth, of pages that go on.
use Rattle.tree_law.proofs.Words.{[], refl, ◌≢◌, ◌∷◌, ℕ, ◌≡◌, Some, Option, ◌≤◌, arith, None, Key, PageOwner, Placed, Cleared, Fresh, Indexed, Held, from_low, life}

pub above_empty : (low : Key) (worth : ℕ) → low ≢ [] → from_low low worth ≡ worth
above_empty [] worth ne = absurd (ne refl)
above_empty (byte ∷ bytes) worth ne = refl

-- which row a slot holds makes no difference
pub same_life : (w : PageOwner) (x y : ℕ) → life w (Some y) ≡ life w (Some x)
same_life (Placed Fresh level low) x y = refl
same_life owner x y = refl

-- a page whose term is gone has one change left at most
pub cleared_most : (actor level : ℕ) (low : Key) (slot : Option ℕ) → life (Cleared actor level low) slot ≤ 1
cleared_most actor level low None = omega arith
cleared_most actor level low (Some row) = omega arith

pub at_most : (low : Key) (worth : ℕ) → from_low low worth ≤ worth
at_most [] worth = omega arith
at_most (byte ∷ bytes) worth = omega arith

pub life_most : (w : PageOwner) (slot : Option ℕ) → life w slot ≤ 40
life_most (Placed Fresh level low) slot = at_most low 40
life_most (Placed Indexed level low) slot = let most = at_most low 32 in omega (arith, most)
life_most (Placed Held level low) slot = let most = at_most low 30 in omega (arith, most)
life_most (Cleared actor level low) slot = let most = cleared_most actor level low slot in omega (arith, most)
life_most other slot = omega arith
