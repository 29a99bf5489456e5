-- The least key above a key.
use Rattle.std.specs.Prelude.{◌≡◌, ◌+◌, ◌-◌, ℕ, List, [], ◌∷◌, false, not, Option, None, Some, if◌then◌else◌, nat_lt}
use Rattle.bw_model.specs.Bytes.{is_below, longest}

-- a byte before what is above the rest; or where nothing is, the next byte, if there is one
abbrev pub above_rest : ℕ → Option (List ℕ) → Option (List ℕ)
above_rest byte (Some rest) = Some (byte ∷ rest)
above_rest byte None = if nat_lt byte 255 then Some ((byte + 1) ∷ []) else None

-- Among lists of so many bytes at most: with a 0 behind it, if there is room; else up to the last byte that isn't 255, which is one more.
abbrev pub above_in : ℕ → List ℕ → Option (List ℕ)
above_in room [] = if nat_lt 0 room then Some (0 ∷ []) else None
above_in room (byte ∷ rest) = above_rest byte (above_in (room - 1) rest)

-- the least key above a key; above the greatest key there is none
abbrev pub key_above : List ℕ → Option (List ℕ)
key_above key = above_in longest key

-- What is above the key is exactly what is at or above the other one; or nothing is, where there is none.
abbrev pub IsSplitBy : Option (List ℕ) → List ℕ → List ℕ → Type 0
IsSplitBy None key x = is_below key x ≡ false
IsSplitBy (Some least) key x = is_below key x ≡ not (is_below x least)
