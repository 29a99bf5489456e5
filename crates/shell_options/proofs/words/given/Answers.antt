use Rattle.clap.specs.Words.{found_of}
use Rattle.shell_options.proofs.Spelling.{is_number, value_read}
use Rattle.shell_options.proofs.words.given.Goals as goal

pub returns-in-Ok-clause-ok : goal.returns-in-Ok-clause-ok
returns-in-Ok-clause-ok c =
    is_number (found_of c.args.matches.now) c.args.name.now c.in-Ok.number (λ h. let bad = c.in-Ok.ensures.none h in cc)
    (λ t h. value_read t c.in-Ok.number (c.in-Ok.ensures.value t h))
