-- The key and the mark of a record that names one key.
use Rattle.std.specs.Prelude.{ℕ, List, [], Bool, false, Option, None, Some}

abbrev pub named : Option (List ℕ × Bool) → List ℕ
named None = []
named (Some (key, there)) = key

abbrev pub mark : Option (List ℕ × Bool) → Bool
mark None = false
mark (Some (key, there)) = there
