use Rattle.std.proofs.Common.{◌≡◌, length, get_or, take, drop, subst, sym, ◌∙◌}
use Rattle.base_page.specs.Rules.{is_held}
use Rattle.record_slots.specs.Layout.{text_size}
use Rattle.record_slots.specs.Texts.{IsText}
use Rattle.record_slots.specs.Parts.{IsItemIn}
use Rattle.record_slots.proofs.ItemLaws.{key_text, key_count, marked, unmarked}
use Rattle.record_slots.proofs.Refusals.{refused}
use Rattle.record_slots.proofs.item_words.item_in.Goals as goal
use Rattle.record_slots.proofs.item_words.item_in.Goals.{then-held, else-held}

pub returns-in_err-key : goal.returns-in_err-key
returns-in_err-key c = refused (IsItemIn c.args.level c.args.words.now) c.from_residual.result c.from_residual.ensures.0 (λ item is.
    let words = c.args.words.now in
    let few = is.is.short.0.short in
    let first = key_count c.args.level words item is in
    let counts : length item.key ≡ c.if-held.count = elim c.if-held.branch [
      | then-held w ↦ marked (is_held item.content) (length item.key) (get_or words 0 0) few first w.if-held.true ∙ sym w.count-is
      | else-held w ↦ unmarked (is_held item.content) (length item.key) (get_or words 0 0) few first w.if-held.false ∙ sym w.count-is
    ] in
    c.in_err-key.ensures item.key (subst (λ n. IsText n (take text_size (drop 1 words)) item.key) counts (key_text c.args.level words item is)))
