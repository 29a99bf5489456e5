-- Which lines are looked at.
use Rattle.std.specs.Prelude.{◌≡◌, ℕ, List, Bool, true, false}
use Rattle.bw_shell.specs.Lines.{lines_of, Splits}

-- The lines of bytes: all of them where the input has ended, else the whole lines.
abbrev pub AreLinesOf : List ℕ → Bool → List (List ℕ) → Type 0
AreLinesOf bytes true lines = lines ≡ lines_of bytes
AreLinesOf bytes false lines = (part : List ℕ) × Splits bytes lines part
