use Rattle.std.proofs.Common.{◌++◌, ◌∷◌, ap, ◌∙◌}
use Rattle.std.specs.Prelude.{option_copied, length, replicate}
use Rattle.record_slots.specs.Spelling.{bound_words, field_words, items_words, words_left}
use Rattle.record_slots.proofs.WrittenLaws.{written, filled}
use Rattle.record_slots.proofs.write.write_row.Goals as goal

pub returns-clause-words : goal.returns-clause-words
returns-clause-words c =
    let second = option_copied c.args.second in
    let field = c.push_field.ensures ∙ ap (λ bytes. c.push-3.new.self ++ field_words bytes) c.key_bytes.ensures.bytes in
    let is = written c.header_word.result c.from.result c.from-2.result c.args.first.now second c.args.items.now c.args.row.now c.push.new.self
    c.push-2.new.self c.push-3.new.self c.push_field.new.row c.push_bound.new.row c.push_items.new.row
    c.requires.empty c.push.ensures c.push-2.ensures c.push-3.ensures field c.push_bound.ensures.words c.push_items.ensures.words in
    filled c.header_word.result c.from.result c.from-2.result c.args.first.now second c.args.items.now c.push_items.new.row is
    ∙ (λ i. c.header_word.ensures i ∷ c.from.ensures i ∷ c.from-2.ensures i ∷
    (field_words c.args.first.now ++ (bound_words second ++ (items_words c.args.items.now ++ replicate (words_left (length c.args.items.now)) 0))))
