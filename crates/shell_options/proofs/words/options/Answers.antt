use Rattle.std.proofs.Common.{◌≡◌, ◌∙◌, ap, sym, subst, List, map, inl, inr, IfErr, IfOk, Result, Ok, Err, Option}
use Rattle.std.specs.String.{string_bytes}
use Rattle.clap.specs.declared.error.Error.{Error}
use Rattle.clap.specs.Words.{HasKind, IsAmong, Kinds, App, Row, Text, app_of, kind_of, fault_of, is_simple, is_simple_and_free, subcommand_of}
use Rattle.clap.specs.declared.error.kind.ErrorKind.TheVariants.{OutOfMemory}
use Rattle.shell_options.specs.Grammar.{bwtree_app}
use Rattle.shell_options.specs.Words.{behind, HasNoFault, IsNamedBy, MayMisplace}
use Rattle.shell_options.proofs.Spelling.{is_simple-bwtree_app, is_refused, is_simple_and_free-bwtree_app, outside}
use Rattle.shell_options.proofs.words.options.Goals as goal

pub returns-in-Ok-try_get_matches_from-clause-spelled : goal.returns-in-Ok-try_get_matches_from-clause-spelled
returns-in-Ok-try_get_matches_from-clause-spelled c =
    let words : List Text = map (λ s. string_bytes s) c.args.words.now in
    let app : app_of c.in-Ok.command ≡ bwtree_app = c.in-Ok.ensures in
    let has = (c.in-Ok-try_get_matches_from.ensures.matches (ap is_simple app ∙ is_simple-bwtree_app)).1 in
    subst (λ (told : Option (Text × List Row)). IfOk c.named_program.result (IsNamedBy told)) (has ∙ ap (λ (a : App). subcommand_of a words) app) c.named_program.ensures.told

if_ok : {A E : Type 0} (r : Result A E) (P : Type 0) → P → IfOk r (λ _. P)
if_ok (Ok x) P h = h
if_ok (Err e) P h = tt

pub returns-in-Ok-try_get_matches_from-clause-faultless : goal.returns-in-Ok-try_get_matches_from-clause-faultless
returns-in-Ok-try_get_matches_from-clause-faultless c =
    let words : List Text = map (λ s. string_bytes s) c.args.words.now in
    let app : app_of c.in-Ok.command ≡ bwtree_app = c.in-Ok.ensures in
    let none = c.in-Ok-try_get_matches_from.ensures.kinds (ap is_simple_and_free app ∙ is_simple_and_free-bwtree_app) in
    if_ok c.named_program.result (HasNoFault words) (sym (ap (λ (a : App). fault_of a words) app) ∙ none)

pub returns-in-Ok-try_get_matches_from-clause-refused : goal.returns-in-Ok-try_get_matches_from-clause-refused
returns-in-Ok-try_get_matches_from-clause-refused c =
    let words : List Text = map (λ s. string_bytes s) c.args.words.now in
    let app : app_of c.in-Ok.command ≡ bwtree_app = c.in-Ok.ensures in
    let has = (c.in-Ok-try_get_matches_from.ensures.matches (ap is_simple app ∙ is_simple-bwtree_app)).1 in
    let none = c.in-Ok-try_get_matches_from.ensures.kinds (ap is_simple_and_free app ∙ is_simple_and_free-bwtree_app) in
    is_refused words c.named_program.result (sym (ap (λ (a : App). fault_of a words) app) ∙ none)
    (subst (λ (told : Option (Text × List Row)). IfErr c.named_program.result (MayMisplace (behind told)))
    (has ∙ ap (λ (a : App). subcommand_of a words) app) c.named_program.ensures.refused)

among : (kinds : Kinds) (e : Error) → (kind_of e ≡ OutOfMemory → ⊥) → HasKind kinds e → IsAmong (kind_of e) kinds
among kinds e other (inl h) = absurd (other h)
among kinds e other (inr h) = h

pub returns-in-Err-2-clause-refused : goal.returns-in-Err-2-clause-refused
returns-in-Err-2-clause-refused c =
    let words : List Text = map (λ s. string_bytes s) c.args.words.now in
    let app : app_of c.in-Ok.command ≡ bwtree_app = c.in-Ok.ensures in
    let other : (kind_of c.in-Err-2.error ≡ OutOfMemory) → ⊥ = λ h.
    let is : c.kind.result ≡ OutOfMemory = c.kind.ensures ∙ ap kind_of c.in-Err-2.error-is ∙ h in
    let same = rw is at c.eq.ensures in
    cc (sym c.if-eq.false ∙ same) in
    let kinds = c.in-Err-2.ensures.kinds (ap is_simple_and_free app ∙ is_simple_and_free-bwtree_app) in
    let same_error : c.in-Err-2.error ≡ c.in-Err.error = cc in (
      outside _ _ _ c.in-Ok.ensures c.in-Err-2.ensures.passes other,
      subst (λ (e : Error). IsAmong (kind_of e) (fault_of bwtree_app words)) same_error
          (subst (λ (a : App). IsAmong (kind_of c.in-Err-2.error) (fault_of a words)) app (among _ c.in-Err-2.error other kinds)),
    )
