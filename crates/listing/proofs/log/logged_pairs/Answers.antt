use Rattle.listing.proofs.Words.{◌≡◌, ◌∷◌, ◌++◌, ◌+◌, ◌∙◌, [], take, true, false, option_copied, sym, is_in_range}
use Rattle.std.proofs.lemmas.List.{take_all}
use Rattle.std.proofs.lemmas.Result.{IfOk-weaker}
use Rattle.bw_model.specs.Log.{updated_key}
use Rattle.listing.proofs.PairLaws.{Says, pairs_of_map, Says-inside, Says-outside, take-grown}
use Rattle.listing.proofs.log.logged_pairs.Goals.{then-is_inside+in_ok-note, else-is_inside}
use Rattle.listing.proofs.log.logged_pairs.Goals as goal

pub loop-update-preserved : goal.loop-update-preserved
loop-update-preserved c =
    let log = c.args.log.now in
    let i = c.loop-update.update-index in
    let update = c.update-item.result in
    let low = c.args.low.now in
    let high = option_copied c.args.high in
    let grown : take (i + 1) log ≡ take i log ++ update ∷ [] = take-grown log i update c.loop-update-test.true c.update-item.is in
    elim c.if-is_inside.branch [
      | then-is_inside+in_ok-note w ↦
          let within : is_in_range low high (updated_key update) ≡ true = rw (← c.key.ensures) (sym c.is_inside.ensures ∙ w.if-is_inside.true) in
          rw (w.values-is, grown) record {
            ordered = w.in_ok-note.ensures.ordered;
            says = Says-inside (take i log) update low high c.loop-update.values
                w.note.new.values within c.loop-update.invariant.says w.in_ok-note.ensures.noted;
          }
      | else-is_inside w ↦
          let within : is_in_range low high (updated_key update) ≡ false = rw (← c.key.ensures) (sym c.is_inside.ensures ∙ w.if-is_inside.false) in
          rw (w.values-is, grown) record { ordered = c.loop-update.invariant.ordered; says = Says-outside (take i log) update low high c.loop-update.values within c.loop-update.invariant.says }
    ]

pub returns : goal.returns
returns c =
    let says : Says c.args.log.now c.args.low.now (option_copied c.args.high) c.loop-update.values = rw
    (take_all c.loop-update.update-index c.args.log.now c.loop-update-test.false) at c.loop-update.invariant.says in
    IfOk-weaker c.pairs_of.result _ _
    (λ pairs same. rw same (pairs_of_map c.args.log.now c.args.low.now (option_copied c.args.high) c.loop-update.values c.loop-update.invariant.ordered says))
    c.pairs_of.ensures
