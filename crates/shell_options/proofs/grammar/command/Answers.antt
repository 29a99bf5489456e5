use Rattle.std.proofs.Common.{ap, true, ◌∙◌}
use Rattle.clap.specs.Simple.{app_of_fields, on_top}
use Rattle.shell_options.specs.Grammar.{script_app, weave_app, draw_app, film_app, race_app}
use Rattle.shell_options.proofs.grammar.command.Goals as goal

pub returns : goal.returns
returns c =
    let named = ap app_of_fields c.about.ensures ∙ c.new.ensures.app in
    let versioned = ap app_of_fields c.version.ensures ∙ ap (on_top (λ s. record s { has_version = true })) named in
    let helped = ap app_of_fields c.after_help.ensures ∙ versioned in
    let root = ap app_of_fields c.subcommand_required-command.ensures ∙ ap (on_top (λ s. record s { subcommand_required = true })) helped in
    let script = c.with_program-command.ensures _ script_app root c.script_command.ensures in
    let weave = c.with_program-command-2.ensures _ weave_app script c.weave_command.ensures in
    let draw = c.with_program-command-3.ensures _ draw_app weave c.draw_command.ensures in
    let film = c.with_program-command-4.ensures _ film_app draw c.film_command.ensures in
    c.with_program.ensures _ race_app film c.race_command.ensures
