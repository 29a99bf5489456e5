-- The separators of splits that an operation is still to visit.
use Rattle.std.specs.Prelude.{◌∷◌, [], ◌++◌, ℕ, List, length, nat_lt, if◌then◌else◌}

-- at most 16 errands are kept
abbrev pub with_errand : List ℕ → List (List ℕ) → List (List ℕ)
with_errand key errands = if nat_lt (length errands) 16 then errands ++ key ∷ [] else errands
