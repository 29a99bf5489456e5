use Rattle.shell_options.proofs.Commands.{added}
use Rattle.shell_options.proofs.grammar.with_program.Goals as goal

pub returns : goal.returns
returns c = λ app sub is made. added _ _ _ _ _ app sub c.in_ok-command.was c.in_ok-made.was c.subcommand.ensures is made
