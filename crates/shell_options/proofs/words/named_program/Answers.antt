use Rattle.std.proofs.Common.{◌∙◌, refl}
use Rattle.clap.specs.Words.{found_of, rows_of}
use Rattle.shell_options.specs.declared.settings.Program.TheVariants.{Script, Weave, Draw, Film, Race}
use Rattle.shell_options.specs.Words.{told_by}
use Rattle.shell_options.proofs.Spelling.{is_misplaced, is_told, name_is}
use Rattle.shell_options.proofs.words.named_program.Goals as goal

pub returns-in-Some-clause-told : goal.returns-in-Some-clause-told
returns-in-Some-clause-told c =
    is_told (told_by c.args.matches.now) Script (rows_of (found_of c.in-Some.script.now)) c.numbers.result (name_is _ ∙ c.in-Some.ensures.found.0 refl)
    c.in-Some.ensures.rows c.numbers.ensures.ok c.numbers.ensures.program

pub returns-in-Some-subcommand_matches-clause-told : goal.returns-in-Some-subcommand_matches-clause-told
returns-in-Some-subcommand_matches-clause-told c =
    is_told (told_by c.args.matches.now) Weave (rows_of (found_of c.in-Some-subcommand_matches.weave.now)) c.numbers-in-Some-subcommand_matches.result
    (name_is _ ∙ c.in-Some-subcommand_matches.ensures.found.0 refl) c.in-Some-subcommand_matches.ensures.rows
    c.numbers-in-Some-subcommand_matches.ensures.ok c.numbers-in-Some-subcommand_matches.ensures.program

pub returns-in-Some-subcommand_matches-2-clause-told : goal.returns-in-Some-subcommand_matches-2-clause-told
returns-in-Some-subcommand_matches-2-clause-told c =
    is_told (told_by c.args.matches.now) Draw (rows_of (found_of c.in-Some-subcommand_matches-2.draw.now)) c.numbers-in-Some-subcommand_matches-2.result
    (name_is _ ∙ c.in-Some-subcommand_matches-2.ensures.found.0 refl) c.in-Some-subcommand_matches-2.ensures.rows
    c.numbers-in-Some-subcommand_matches-2.ensures.ok c.numbers-in-Some-subcommand_matches-2.ensures.program

pub returns-in-Some-subcommand_matches-3-clause-told : goal.returns-in-Some-subcommand_matches-3-clause-told
returns-in-Some-subcommand_matches-3-clause-told c =
    is_told (told_by c.args.matches.now) Film (rows_of (found_of c.in-Some-subcommand_matches-3.film.now)) c.numbers-in-Some-subcommand_matches-3.result
    (name_is _ ∙ c.in-Some-subcommand_matches-3.ensures.found.0 refl) c.in-Some-subcommand_matches-3.ensures.rows
    c.numbers-in-Some-subcommand_matches-3.ensures.ok c.numbers-in-Some-subcommand_matches-3.ensures.program

pub returns-in-Some-subcommand_matches-4-clause-told : goal.returns-in-Some-subcommand_matches-4-clause-told
returns-in-Some-subcommand_matches-4-clause-told c =
    is_told (told_by c.args.matches.now) Race (rows_of (found_of c.in-Some-subcommand_matches-4.race.now)) c.numbers-in-Some-subcommand_matches-4.result
    (name_is _ ∙ c.in-Some-subcommand_matches-4.ensures.found.0 refl) c.in-Some-subcommand_matches-4.ensures.rows
    c.numbers-in-Some-subcommand_matches-4.ensures.ok c.numbers-in-Some-subcommand_matches-4.ensures.program

pub returns-in-Some-clause-refused : goal.returns-in-Some-clause-refused
returns-in-Some-clause-refused c =
    is_misplaced (told_by c.args.matches.now) _ c.numbers.result c.in-Some.ensures.rows
    c.numbers.ensures.refused

pub returns-in-Some-subcommand_matches-clause-refused : goal.returns-in-Some-subcommand_matches-clause-refused
returns-in-Some-subcommand_matches-clause-refused c =
    is_misplaced (told_by c.args.matches.now) _ c.numbers-in-Some-subcommand_matches.result c.in-Some-subcommand_matches.ensures.rows
    c.numbers-in-Some-subcommand_matches.ensures.refused

pub returns-in-Some-subcommand_matches-2-clause-refused : goal.returns-in-Some-subcommand_matches-2-clause-refused
returns-in-Some-subcommand_matches-2-clause-refused c =
    is_misplaced (told_by c.args.matches.now) _ c.numbers-in-Some-subcommand_matches-2.result c.in-Some-subcommand_matches-2.ensures.rows
    c.numbers-in-Some-subcommand_matches-2.ensures.refused

pub returns-in-Some-subcommand_matches-3-clause-refused : goal.returns-in-Some-subcommand_matches-3-clause-refused
returns-in-Some-subcommand_matches-3-clause-refused c =
    is_misplaced (told_by c.args.matches.now) _ c.numbers-in-Some-subcommand_matches-3.result c.in-Some-subcommand_matches-3.ensures.rows
    c.numbers-in-Some-subcommand_matches-3.ensures.refused

pub returns-in-Some-subcommand_matches-4-clause-refused : goal.returns-in-Some-subcommand_matches-4-clause-refused
returns-in-Some-subcommand_matches-4-clause-refused c =
    is_misplaced (told_by c.args.matches.now) _ c.numbers-in-Some-subcommand_matches-4.result c.in-Some-subcommand_matches-4.ensures.rows
    c.numbers-in-Some-subcommand_matches-4.ensures.refused
