use Rattle.std.proofs.Common.{◌∙◌}
use Rattle.row_search.proofs.Words.{words_of}
use Rattle.row_search.proofs.ItemReads.{few_there, text_there}
use Rattle.row_search.proofs.RowTexts.{first_text}
use Rattle.row_search.proofs.row_at.RowAt.first.Goals as goal

pub key-requires-clause-few : goal.key-requires-clause-few
key-requires-clause-few g c =
    let content = c.args.self.now.content in
    few_there c.length-count.ensures.word (first_text (words_of content) content c.keeps_spelling.ensures)

pub returns-clause-first : goal.returns-clause-first
returns-clause-first g c =
    let content = c.args.self.now.content in
    c.key.ensures.key ∙ text_there c.length-count.ensures.word (first_text (words_of content) content c.keeps_spelling.ensures)
