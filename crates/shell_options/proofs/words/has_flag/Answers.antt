use Rattle.std.proofs.Common.{false}
use Rattle.clap.specs.Words.{found_of, one_text}
use Rattle.shell_options.proofs.Spelling.{spells_flag, reads_flag, reads_no_flag}
use Rattle.shell_options.proofs.words.has_flag.Goals as goal

pub returns-in-Ok-Some-clause-ok : goal.returns-in-Ok-Some-clause-ok
returns-in-Ok-Some-clause-ok c =
    let e = rw c.in-Ok-Some.field-0-is at c.in-Ok-Some.ensures in
    let found = found_of c.args.matches.now in
    spells_flag found c.args.name.now c.in-Ok-Some.is_there
    (reads_flag c.in-Ok-Some.is_there (one_text found c.args.name.now) (λ h. let bad = e.none h in cc) (λ t h. e.value t h))

pub returns-in-Ok-None-clause-ok : goal.returns-in-Ok-None-clause-ok
returns-in-Ok-None-clause-ok c =
    let e = rw c.in-Ok-None.field-0-is at c.in-Ok-None.ensures in
    let found = found_of c.args.matches.now in
    spells_flag found c.args.name.now false
    (reads_no_flag (one_text found c.args.name.now) (λ t h. e.value t h))
