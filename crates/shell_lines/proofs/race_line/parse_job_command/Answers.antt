use Rattle.std.proofs.Common.{arith}
use Rattle.shell_lines.proofs.RaceLines.{line_ok, line_malformed, line_too_long}
use Rattle.shell_lines.proofs.race_line.parse_job_command.Goals as goal

pub returns-clause-ok : goal.returns-clause-ok
returns-clause-ok c = line_ok c.args.line.now c.read_job_command.result (omega arith) c.read_job_command.ensures

pub returns-clause-malformed : goal.returns-clause-malformed
returns-clause-malformed c = line_malformed c.args.line.now c.read_job_command.result c.read_job_command.ensures

pub returns-clause-too_long : goal.returns-clause-too_long
returns-clause-too_long c = line_too_long c.args.line.now c.read_job_command.result (omega arith) c.read_job_command.ensures
