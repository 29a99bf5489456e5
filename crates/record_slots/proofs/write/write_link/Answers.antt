use Rattle.std.proofs.Common.{Some, [], ◌∙◌}
use Rattle.record_slots.specs.Spelling.{row_words}
use Rattle.record_slots.proofs.write.write_link.Goals as goal

pub returns-clause-words : goal.returns-clause-words
returns-clause-words c = c.write_row.ensures.words ∙ (λ i. row_words c.args.numbers.kind c.args.numbers.level c.args.numbers.next c.args.numbers.page c.args.first.now (Some (c.default.ensures i)) [])
