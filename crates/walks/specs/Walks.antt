-- Walks: pages one after another, in keys and in time.
use Rattle.std.specs.Prelude.{◌≡◌, ◌+◌, ◌<◌, ◌≤◌, ℕ, Bool, List, [], ◌∷◌, Contains, Option, Some, IsTrue, flat_map, map}
use Rattle.std.specs.List.Sorted.{IsStrictlySortedBy}
use Rattle.bw_model.specs.Bytes.{is_in_range, key_cmp}
use Rattle.bw_model.specs.Log.{logged_value}
use Rattle.traces.specs.declared.trace.Entry.{Entry}
use Rattle.linearization.specs.Points.{log_at}
use Rattle.walks.specs.Pages.{IsPageOf, WalkedPage}

-- The walk stood at one key, or at its end, and went on from there by these pages to where it stands: each begins at the key where the one
-- before it ended, and its operation was begun after that one's was done. All of it was between two places of the run.
abbrev pub IsWalk : List Entry → Option (List ℕ) → Option (List ℕ) → ℕ → List WalkedPage → Option (List ℕ) → ℕ → Type 0
IsWalk run bound at since [] to till = (to ≡ at) × (since ≤ till)
IsWalk run bound at since (page ∷ pages) to till = (at ≡ Some page.from) × (since ≤ page.begun) × IsPageOf run bound page
    × IsWalk run bound page.next (page.done + 1) pages to till

-- what the pages show, one page's pairs after another's
abbrev pub pairs_shown : List WalkedPage → List (List ℕ × List ℕ)
pairs_shown pages = flat_map (λ page. page.pairs) pages

-- The keys ascend strictly.
abbrev pub PairsAscend : List (List ℕ × List ℕ) → Type 0
PairsAscend pairs = IsStrictlySortedBy key_cmp (map (λ pair. pair.0) pairs)

-- The map has the value at the key before each step between the two places.
abbrev pub HasThroughout : List Entry → List Bool → ℕ → ℕ → List ℕ → List ℕ → Type 0
HasThroughout run points since till key value = (n : ℕ) → since ≤ n → n < till → logged_value (log_at run points n) key ≡ Some value

-- It has some value there before each of these steps, not always the same.
abbrev pub IsThereThroughout : List Entry → List Bool → ℕ → ℕ → List ℕ → Type 0
IsThereThroughout run points since till key = (n : ℕ) → since ≤ n → n < till → (value : List ℕ) × (logged_value (log_at run points n) key ≡ Some value)

-- It has the value at the key before one of these steps.
abbrev pub HasOnce : List Entry → List Bool → ℕ → ℕ → List ℕ → List ℕ → Type 0
HasOnce run points since till key value = (n : ℕ) × (since ≤ n) × (n < till) × (logged_value (log_at run points n) key ≡ Some value)

-- What pairs tell of a map that others change meanwhile: their keys ascend strictly and are in the range; a key that is there throughout is
-- among them, a value that it has throughout with it; and what is among them the map has had.
pub record TellMap (run : List Entry) (points : List Bool) (since till : ℕ) (from : List ℕ) (end : Option (List ℕ))
    (pairs : List (List ℕ × List ℕ)) : Type 0 where
  pub ascending : PairsAscend pairs
  pub within : (key value : List ℕ) → Contains pairs (key, value) → IsTrue (is_in_range from end key)
  pub there : (key : List ℕ) → IsTrue (is_in_range from end key) → IsThereThroughout run points since till key → (value : List ℕ) × Contains pairs (key, value)
  pub stays : (key value : List ℕ) → IsTrue (is_in_range from end key) → HasThroughout run points since till key value → Contains pairs (key, value)
  pub was : (key value : List ℕ) → Contains pairs (key, value) → HasOnce run points since till key value

-- What a walk tells of its next pair: the map has had it, and of the keys before it none was there throughout.
abbrev pub TellNext : List Entry → List Bool → ℕ → ℕ → List ℕ → List ℕ → List ℕ → Type 0
TellNext run points since till from key value =
    HasOnce run points since till key value ×
    ((other : List ℕ) → IsTrue (is_in_range from (Some key) other) → IsThereThroughout run points since till other → ⊥)
