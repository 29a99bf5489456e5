-- Words that others are added to.
use Rattle.std.specs.Prelude.{◌≡◌, ◌≤◌, ◌+◌, ◌++◌, ℕ, List, length}
use Rattle.tree_picture.specs.declared.words.TheConstants.{MAX_WORDS}

-- where there is room for all of them, these stand behind the others
abbrev pub Adds : List ℕ → List ℕ → List ℕ → Type 0
Adds old new more = length old + length more ≤ MAX_WORDS → new ≡ old ++ more
