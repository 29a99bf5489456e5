-- Numbers of a tree in words of 64 bits: number n stands at bit n % 64 of word n / 64.
use Rattle.std.specs.Prelude.{◌==◌, ◌/◌, ◌%◌, ◌&&◌, ℕ, Bool}
use Rattle.std.specs.Int.{bit_at}

-- The number is of the word, at a bit that is set there.
abbrev pub is_among : ℕ → ℕ → ℕ → Bool
is_among word bits number = (number / 64 == word) && (bit_at bits (number % 64) == 1)
