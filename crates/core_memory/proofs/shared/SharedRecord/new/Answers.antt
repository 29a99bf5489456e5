use Rattle.std.proofs.Common.{◌≡◌, ap, ◌∙◌}
use Rattle.std.specs.Rc.{rc_slice_items}
use Rattle.core_memory.specs.Shared.{whole}
use Rattle.core_memory.proofs.WholeRows.{shares}
use Rattle.core_memory.proofs.shared.SharedRecord.new.Goals as goal

pub invariant_of-result : goal.invariant_of-result
invariant_of-result g c =
    let words = rc_slice_items c.in_ok-words.words in
    let same : whole words ≡ c.to_words-row.result = ap whole c.in_ok-words.ensures.ok ∙ c.used.ensures in
    (shares c.to_words-row.result words c.args.content.now same (c.to_words-row.ensures.spells c.requires)).1

pub returns : goal.returns
returns g c =
    let words = rc_slice_items c.in_ok-words.words in
    let same : whole words ≡ c.to_words-row.result = ap whole c.in_ok-words.ensures.ok ∙ c.used.ensures in
    (shares c.to_words-row.result words c.args.content.now same (c.to_words-row.ensures.spells c.requires)).0
