-- What a conjunction of tests says.
use Rattle.std.proofs.Common.{◌≡◌, Bool, true, false, refl, ◌∙◌}
use Rattle.std.specs.Prelude.{◌&&◌}

pub left : (a b : Bool) → a && b ≡ true → a ≡ true
left true b h = refl
left false b h = h

pub right : (a b : Bool) → a && b ≡ true → b ≡ true
right true b h = h
right false b h = cc

pub both : (a b : Bool) → a ≡ true → b ≡ true → a && b ≡ true
both a b h g = (λ i. h i && b) ∙ g
