-- What a token is read as, given its value.
use Rattle.std.specs.Prelude.{◌≡◌, ℕ, ◌≤◌, ◌<◌, List, length, Option, Some, None, Result, Ok, Err}
use Rattle.bw_model.specs.Bytes.{longest}
use Rattle.shell_lines.specs.declared.token.LineError.{LineError}
use Rattle.shell_lines.specs.declared.token.LineError.TheVariants.{Malformed, TooLong}

abbrev pub Gives : Result (List ℕ) LineError → Option (List ℕ) → Type 0
Gives (Ok key) value = (value ≡ Some key) × (length key ≤ longest)
Gives (Err Malformed) value = value ≡ None
Gives (Err TooLong) value = (key : List ℕ) × (value ≡ Some key) × (longest < length key)
