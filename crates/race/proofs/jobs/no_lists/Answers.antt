use Rattle.std.proofs.Common.{◌≡◌, ◌∙◌, ◌++◌, ◌∷◌, [], List, ap, arith, map, replicate, subst, sym}
use Rattle.std.proofs.lemmas.List.{map-append, replicate-append-replicate}
use Rattle.bw_model.specs.declared.command.Command.{Command}
use Rattle.race.specs.Lists.{AreListsOf}
use Rattle.race.proofs.Listing.{none_listed}
use Rattle.race.proofs.jobs.no_lists.Goals as goal

pub loop-number-preserved : goal.loop-number-preserved
loop-number-preserved c =
    ap (map (λ list. list.items)) c.in_ok-push.ensures.items ∙ map-append (λ list. list.items) c.loop-number.lists.items (c.new.result ∷ [])
    ∙ (λ i. c.loop-number.invariant i ++ c.new.ensures.items i ∷ []) ∙ replicate-append-replicate {A = List Command} c.loop-number._number 1 []

pub returns : goal.returns
returns c =
    let all : c.loop-number._number ≡ 4096 = omega (arith, c.loop-number-test.false, c.loop-number.auto._number-end) in
    subst (AreListsOf []) (sym (c.loop-number.invariant ∙ ap (λ n. replicate n []) all)) none_listed
