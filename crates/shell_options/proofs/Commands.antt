-- A command that has a subcommand or an option more.
use Rattle.std.proofs.Common.{◌≡◌, ap, ◌∙◌, subst, Bool, Result, Ok, Err, IfOk, ◌||◌, false}
use Rattle.clap.specs.Simple.{App}
use Rattle.clap.specs.Words.{AddsArg, AddsSubcommand, Rule, app_of, rule_of, with_rule, with_subcommand}
use Rattle.clap.specs.declared.builder.arg.Arg.{Arg}
use Rattle.clap.specs.declared.builder.command.Command.{Command}
use Rattle.clap.specs.declared.builder.command.Command.TheViews.{out-Command as fields_of}
use Rattle.shell_options.specs.Grammar.{IsApp, MakesApp}

is_made : {E : Type 0} (made : Result Command E) (command : Command) (app : App) → made ≡ Ok command → MakesApp app made → (app_of command ≡ app) × ((fields_of command).has_globals ≡ false)
is_made {E = E} made command app found makes = subst (λ (m : Result Command E). MakesApp app m) found makes

pub ruled : {E : Type 0} (made new : Result Command E) (old : Command) (option : Arg) (rule : Rule) (app : App)
    → made ≡ Ok old → IfOk new (AddsArg old option) → rule_of option ≡ rule → option.global ≡ false → MakesApp app made → MakesApp (with_rule app rule) new
ruled made (Ok new) old option rule app found adds is local makes =
    let was = is_made made old app found makes in
    (adds.shape local ∙ ap (with_rule (app_of old)) is ∙ ap (λ (a : App). with_rule a rule) was.0, adds.globals ∙ ap (λ (b : Bool). b || option.global) was.1 ∙ local)
ruled made (Err e) old option rule app found adds is local makes = tt

pub added : {E : Type 0} (above made new : Result Command E) (old sub : Command) (app top : App)
    → above ≡ Ok old → made ≡ Ok sub → IfOk new (AddsSubcommand old sub) → IsApp app above → MakesApp top made → IsApp (with_subcommand app top.top) new
added above made (Ok new) old sub app top found_old found adds is makes =
    let was = is_made made sub top found makes in
    let old_is : app_of old ≡ app = subst (λ (m : Result Command _). IsApp app m) found_old is in
    adds.shape was.1 ∙ ap (λ (a : App). with_subcommand (app_of old) a.top) was.0 ∙ ap (λ (a : App). with_subcommand a top.top) old_is
added above made (Err e) old sub app top found_old found adds is makes = tt
