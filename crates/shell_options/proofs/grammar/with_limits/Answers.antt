use Rattle.shell_options.proofs.grammar.with_limits.Goals as goal

pub returns : goal.returns
returns c = λ app made.
    let flagged = c.with_flag-command.ensures _ (c.with_number-command-2.ensures _ (c.with_number-command.ensures app made)) in
    c.with_number.ensures _ (c.with_keys-command.ensures _ flagged)
