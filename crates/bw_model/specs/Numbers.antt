-- Numbers below 2^64 as values: eight bytes, the highest first.
use Rattle.std.specs.Prelude.{◌+◌, ◌%◌, ◌^◌, ℕ, List, Bool, length, nat_eq, Option, None, Some}
use Rattle.std.specs.Int.{w64, to_be_bytes, from_be_bytes}

-- the value that spells a number
abbrev pub number_bytes : ℕ → List ℕ
number_bytes number = to_be_bytes w64 number

-- whether a value spells a number: exactly those of eight bytes do
abbrev pub is_number : List ℕ → Bool
is_number value = nat_eq (length value) 8

-- the value of the sum, modulo 2^64, of the number that a value spells and another one
abbrev pub added : List ℕ → ℕ → List ℕ
added value number = number_bytes ((from_be_bytes w64 value + number) % 2 ^ 64)

-- what an addition makes of the value that a key has, or of none
abbrev pub sum_bytes : Option (List ℕ) → ℕ → List ℕ
sum_bytes None number = number_bytes number
sum_bytes (Some old) number = added old number
