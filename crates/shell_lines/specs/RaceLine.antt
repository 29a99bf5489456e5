-- What a line of a race asks for.
use Rattle.std.specs.Prelude.{◌≡◌, ℕ, ◌≤◌, ◌<◌, nat_lt, if◌then◌else◌, List, [], ◌∷◌, length, option_map, Option, Some, None, Result, Ok, Err}
use Rattle.std.specs.Option.{option_and_then}
use Rattle.shell_lines.specs.declared.race_line.JobCommand.{JobCommand}
use Rattle.shell_lines.specs.declared.token.LineError.{LineError}
use Rattle.shell_lines.specs.declared.token.LineError.TheVariants.{Malformed, TooLong}
use Rattle.bw_model.specs.declared.command.Command.{Command}
use Rattle.shell_lines.specs.Fields.{fields_of}
use Rattle.shell_lines.specs.Number.{number_of}
use Rattle.shell_lines.specs.Reading.{command_in}
use Rattle.shell_lines.specs.Request.{SpellsCommand, IsShortCommand}

-- The line asks for the command of the job: the first field is the job's number, 0 to 4,095, and the others spell the command.
abbrev pub SaysOfJob : List ℕ → JobCommand → Type 0
SaysOfJob line asks =
    (length line ≤ 1024) × (number : List ℕ) × (rest : List (List ℕ)) × (fields_of line ≡ number ∷ rest)
    × (number_of number ≡ Some asks.job) × (asks.job < 4096) × SpellsCommand rest asks.command

-- what the fields ask for, as a function: the number of the job, then the command

abbrev pub job_number : ℕ → Option ℕ
job_number n = if nat_lt n 4096 then Some n else None

abbrev pub of_job : ℕ → Command → JobCommand
of_job job command = record { job = job; command = command }

unfoldable pub job_command_in : List (List ℕ) → Option JobCommand
job_command_in [] = None
job_command_in (number ∷ rest) = option_and_then (λ job. option_map (of_job job) (command_in rest)) (option_and_then job_number (number_of number))

-- what is answered, given what the fields ask for
abbrev pub GivesJobCommand : Result JobCommand LineError → Option JobCommand → Type 0
GivesJobCommand (Ok asks) found = (found ≡ Some asks) × IsShortCommand asks.command
GivesJobCommand (Err Malformed) found = found ≡ None
GivesJobCommand (Err TooLong) found = (asks : JobCommand) × (found ≡ Some asks) × (IsShortCommand asks.command → ⊥)
