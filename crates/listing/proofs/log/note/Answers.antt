use Rattle.listing.proofs.Words.{◌≡◌, ◌∙◌, Some, None, option_copied, subst}
use Rattle.bw_model.specs.Log.{updated_value}
use Rattle.listing.proofs.PairLaws.{noted}
use Rattle.listing.proofs.log.note.Goals as goal

pub returns-in_ok-insert-in-Some-clause-noted : goal.returns-in_ok-insert-in-Some-clause-noted
returns-in_ok-insert-in-Some-clause-noted c =
    let told : Some c.in-Some.value.now ≡ updated_value c.args.update.now = subst (λ value. option_copied value ≡ updated_value c.args.update.now) c.in-Some.is c.value.ensures in
    let stored : Some c.copied-in-Some.result ≡ updated_value c.args.update.now = rw (c.copied-in-Some.ensures) told in
    noted c.args.values.now c.insert.new.self c.args.update.now _ _ (c.copied.ensures ∙ c.key.ensures) stored c.in_ok-insert-in-Some.ensures.updates.0

pub returns-in-None-clause-noted : goal.returns-in-None-clause-noted
returns-in-None-clause-noted c =
    let told : None ≡ updated_value c.args.update.now = subst (λ value. option_copied value ≡ updated_value c.args.update.now) c.in-None.is c.value.ensures in
    noted c.args.values.now c.remove.new.self c.args.update.now _ _ c.key-in-None.ensures told c.remove.ensures.updates.0
