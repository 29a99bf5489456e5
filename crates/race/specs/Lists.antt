-- A list of commands for each job number.
use Rattle.std.specs.Prelude.{◌≡◌, ℕ, ◌<◌, List, [], length, slice_index_or}
use Rattle.bw_model.specs.declared.command.Command.{Command}
use Rattle.shell_lines.specs.declared.race_line.JobCommand.{JobCommand}
use Rattle.race.specs.Jobs.{commands_of}

-- There is a list for each job number, 0 to 4,095, of the commands that are asked of it.
pub record AreListsOf (asked : List JobCommand) (lists : List (List Command)) : Type 0 where
  pub count : length lists ≡ 4096
  pub each : (number : ℕ) → number < 4096 → slice_index_or lists number [] ≡ commands_of number asked
