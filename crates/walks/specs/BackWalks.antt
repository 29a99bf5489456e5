-- Walks down the keys: pages backward one after another, in keys and in time.
use Rattle.std.specs.Prelude.{◌≡◌, ◌+◌, ◌≤◌, ◌++◌, ℕ, Bool, List, [], ◌∷◌, Contains, Option, Some, IsTrue}
use Rattle.bw_model.specs.Bytes.{IsShort, is_in_range}
use Rattle.bw_model.specs.NextKeys.{key_after}
use Rattle.traces.specs.declared.trace.Entry.{Entry}
use Rattle.walks.specs.BackPages.{BackPage, IsBackOf}
use Rattle.walks.specs.Walks.{HasOnce, HasThroughout, IsThereThroughout, PairsAscend}

-- The walk stood at one key, or at its end, and went on from there by these pages to where it stands: each goes up to the key at which the
-- one before it said to go on, and its operation was begun after that one's was done. All of it was between two places of the run.
abbrev pub IsBackWalk : List Entry → List ℕ → Option (List ℕ) → ℕ → List BackPage → Option (List ℕ) → ℕ → Type 0
IsBackWalk run low at since [] to till = (to ≡ at) × (since ≤ till)
IsBackWalk run low at since (page ∷ pages) to till = (at ≡ Some page.upto) × (since ≤ page.begun) × IsBackOf run low page
    × IsBackWalk run low page.next (page.done + 1) pages to till

-- what the pages show, read from the walk's end: the last page's pairs before those of the page before it
abbrev pub pairs_upward : List BackPage → List (List ℕ × List ℕ)
pairs_upward [] = []
pairs_upward (page ∷ pages) = pairs_upward pages ++ page.pairs

-- What pairs tell of a map that others change meanwhile: their keys ascend strictly and are in the range; a key, of at most 64 bytes, that is
-- there throughout is among them, a value that it has throughout with it; and what is among them the map has had.
pub record TellKeys (run : List Entry) (points : List Bool) (since till : ℕ) (from : List ℕ) (end : Option (List ℕ))
    (pairs : List (List ℕ × List ℕ)) : Type 0 where
  pub ascending : PairsAscend pairs
  pub within : (key value : List ℕ) → Contains pairs (key, value) → IsTrue (is_in_range from end key)
  pub there : (key : List ℕ) → IsShort key → IsTrue (is_in_range from end key) → IsThereThroughout run points since till key → (value : List ℕ)
      × Contains pairs (key, value)
  pub stays : (key value : List ℕ) → IsShort key → IsTrue (is_in_range from end key) → HasThroughout run points since till key value
      → Contains pairs (key, value)
  pub was : (key value : List ℕ) → Contains pairs (key, value) → HasOnce run points since till key value

-- What a walk down tells of its next pair: the map has had it, and of the keys above it, up to where the walk began, none was there throughout.
abbrev pub TellNextBack : List Entry → List Bool → ℕ → ℕ → Option (List ℕ) → List ℕ → List ℕ → Type 0
TellNextBack run points since till end key value =
    HasOnce run points since till key value
    × ((other : List ℕ) → IsShort other → IsTrue (is_in_range (key_after key) end other) → IsThereThroughout run points since till other → ⊥)
