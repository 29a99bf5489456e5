use Rattle.shell_lines.proofs.RaceLines.{one_job_command}
use Rattle.shell_lines.proofs.race_line.job_commands_are_exact.Goals as goal

pub returns : goal.returns
returns c = one_job_command
