use Rattle.shell_options.proofs.grammar.with_keys.Goals as goal

pub returns : goal.returns
returns c = λ app made. c.with_number.ensures _ (c.with_number-command-2.ensures _ (c.with_number-command.ensures app made))
