use Rattle.shell_lines.proofs.Requested.{one_request}
use Rattle.shell_lines.proofs.request.requests_are_exact.Goals as goal

pub returns : goal.returns
returns c = one_request
