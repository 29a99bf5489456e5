-- What two parts of a line give together.
use Rattle.std.specs.Prelude.{Result, Ok, Err}
use Rattle.shell_lines.specs.declared.token.LineError.{LineError}
use Rattle.shell_lines.specs.declared.token.LineError.TheVariants.{Malformed, TooLong}

-- both, or why not: a part outside the grammar comes before one that is too long
abbrev pub both_of : {A B : Type 0} → Result A LineError → Result B LineError → Result (A × B) LineError
both_of (Ok a) (Ok b) = Ok (a, b)
both_of (Ok a) (Err why) = Err why
both_of (Err Malformed) second = Err Malformed
both_of (Err TooLong) (Ok b) = Err TooLong
both_of (Err TooLong) (Err why) = Err why
