use Rattle.std.proofs.Common.{arith}
use Rattle.shell_lines.proofs.Requested.{parse_ok, parse_malformed, parse_too_long}
use Rattle.shell_lines.proofs.request.parse.Goals as goal

pub returns-clause-ok : goal.returns-clause-ok
returns-clause-ok c = parse_ok c.args.language c.args.line.now c.read_fields.result (omega arith) c.read_fields.ensures

pub returns-clause-malformed : goal.returns-clause-malformed
returns-clause-malformed c = parse_malformed c.args.language c.args.line.now c.read_fields.result c.read_fields.ensures

pub returns-clause-too_long : goal.returns-clause-too_long
returns-clause-too_long c = parse_too_long c.args.language c.args.line.now c.read_fields.result (omega arith) c.read_fields.ensures
