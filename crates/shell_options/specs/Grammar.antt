-- The grammar of the command line, by clap's own words.
use Rattle.std.specs.Prelude.{◌≡◌, IfOk, Result, Some, false, true, codes}
use Rattle.clap.specs.Words.{app_of, App, Rule, Text, new_app, new_rule, with_rule, with_subcommand}
use Rattle.clap.specs.Simple.{on_top}
use Rattle.clap.specs.declared.builder.command.Command.{Command}
use Rattle.clap.specs.declared.builder.command.Command.TheViews.{out-Command as fields_of}
use Rattle.clap.specs.declared.builder.action.ArgAction.TheVariants as action
use Rattle.clap.specs.declared.builder.value_parser.ValueParser.TheVariants as vp

-- an option with a number
abbrev pub number_rule : Text → Rule
number_rule id = record (new_rule id) { long = Some id; parser = Some (vp.Unsigned 0 18446744073709551615) }

-- an option without a value
abbrev pub flag_rule : Text → Rule
flag_rule id = record (new_rule id) { long = Some id; action = Some action.SetTrue }

-- the options of limits by a number of keys
abbrev pub keys_rules : App → App
keys_rules app = with_rule (with_rule (with_rule app (number_rule (codes "keys"))) (number_rule (codes "key-bytes"))) (number_rule (codes "value-bytes"))

-- the options of the limits, but for the number of actors
abbrev pub limits_rules : App → App
limits_rules app =
    let numbers = with_rule (with_rule app (number_rule (codes "pids"))) (number_rule (codes "rows")) in
    with_rule (keys_rules (with_rule numbers (flag_rule (codes "large")))) (number_rule (codes "epoch"))

abbrev pub script_app : App
script_app = limits_rules (new_app (codes "script"))

-- a program of several actors that take turns
abbrev pub actors_app : Text → App
actors_app name = limits_rules (with_rule (new_app name) (number_rule (codes "actors")))

abbrev pub weave_app : App
weave_app = actors_app (codes "weave")

abbrev pub draw_app : App
draw_app = actors_app (codes "draw")

abbrev pub film_app : App
film_app = actors_app (codes "film")

abbrev pub race_app : App
race_app = limits_rules (with_rule (new_app (codes "race")) (number_rule (codes "seats")))

-- all programs
abbrev pub bwtree_app : App
bwtree_app =
    let top = on_top (λ s. record s { has_version = true; subcommand_required = true }) (new_app (codes "bwtree")) in
    with_subcommand (with_subcommand (with_subcommand (with_subcommand (with_subcommand top script_app.top) weave_app.top) draw_app.top) film_app.top) race_app.top

-- the command, if it could be made, is of this shape
abbrev pub IsApp : {E : Type 0} → App → Result Command E → Type 0
IsApp app made = IfOk made (λ c. app_of c ≡ app)

-- the command, if it could be made, is of this shape, and no option of it is its subcommands' too
abbrev pub MakesApp : {E : Type 0} → App → Result Command E → Type 0
MakesApp app made = IfOk made (λ c. (app_of c ≡ app) × ((fields_of c).has_globals ≡ false))
