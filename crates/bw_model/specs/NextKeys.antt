-- The neighbours of a key: the greatest key below it, and the least list above it.
use Rattle.std.specs.Prelude.{◌≡◌, ◌-◌, ◌++◌, ℕ, zero, suc, List, [], ◌∷◌, Option, None, Some, not}
use Rattle.bw_model.specs.Bytes.{IsShort, is_below, longest}

-- so many times the greatest byte
abbrev pub filled : ℕ → List ℕ
filled zero = []
filled (suc n) = 255 ∷ filled n

-- what comes before a last byte, where there is room for so many bytes
abbrev pub before_last : ℕ → ℕ → List ℕ
before_last room zero = []
before_last room (suc b) = b ∷ filled (room - 1)

-- Among lists of so many bytes at most: without the last byte, if that is 0; else with a last byte that is one less, and filled up.
abbrev pub before : ℕ → List ℕ → List ℕ
before room [] = []
before room (b ∷ []) = before_last room b
before room (b ∷ c ∷ rest) = b ∷ before (room - 1) (c ∷ rest)

-- the greatest key below a key; below the empty key there is none
abbrev pub key_before : List ℕ → Option (List ℕ)
key_before [] = None
key_before (b ∷ rest) = Some (before longest (b ∷ rest))

-- the least list above a key: the key with a 0 behind it
abbrev pub key_after : List ℕ → List ℕ
key_after key = key ++ 0 ∷ []

-- exactly the keys at or below this one are below the key
abbrev pub IsGreatestBelow : List ℕ → List ℕ → Type 0
IsGreatestBelow key greatest = (x : List ℕ) → IsShort x → is_below x key ≡ not (is_below greatest x)
