-- What a refusal says.
use Rattle.std.proofs.Common.{Result, Ok, Err}
use Rattle.std.specs.Prelude.{IsErr}
use Rattle.record_slots.specs.Spells.{FindsOne}

-- a refusal that is handed on says that none has the property
pub refused : {A E : Type 0} (has : A → Type 0) (result : Result A E) → IsErr result → ((a : A) → has a → ⊥) → FindsOne has result
refused has (Ok a) h none = cc
refused has (Err e) h none = none

-- the same is found by a property that says the same
pub found_as : {A E : Type 0} (has says : A → Type 0) (result : Result A E) → ((a : A) → has a → says a) → ((a : A) → says a → has a) → FindsOne has result → FindsOne says result
found_as has says (Ok a) there back found = there a found
found_as has says (Err e) there back none = λ a is. none a (back a is)
