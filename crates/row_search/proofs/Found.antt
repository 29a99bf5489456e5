-- What a search found that cannot miss.
use Rattle.std.proofs.Common.{◌≡◌, subst}
use Rattle.std.specs.Prelude.{Result, Ok}
use Rattle.record_slots.specs.Spells.{FindsOne}

pub unwrapped : {A E : Type 0} (has : A → Type 0) (found : Result A E) (one : A) → found ≡ Ok one → FindsOne has found → has one
unwrapped {A = A} {E = E} has found one e h = subst (λ (r : Result A E). FindsOne has r) e h
