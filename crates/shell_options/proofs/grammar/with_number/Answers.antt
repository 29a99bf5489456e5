use Rattle.shell_options.proofs.Commands.{ruled}
use Rattle.shell_options.proofs.grammar.with_number.Goals as goal

pub returns : goal.returns
returns c = λ app made. ruled _ _ _ _ _ app c.in_ok-command.was c.arg.ensures c.number.ensures.rule c.number.ensures.local made
