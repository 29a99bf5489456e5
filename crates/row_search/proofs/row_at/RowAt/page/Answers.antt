use Rattle.std.proofs.Common.{sym, ◌∙◌, arith}
use Rattle.row_search.proofs.Words.{words_of, row_spelled}
use Rattle.row_search.proofs.row_at.RowAt.page.Goals as goal

pub overflow_cast-result : goal.overflow_cast-result
overflow_cast-result g c =
    let content = c.args.self.now.content in
    let is = row_spelled (words_of content) content c.keeps_spelling.ensures in
    let small = is.is.page in
    let same = is.page in
    let word = c.word.ensures.word in
    omega arith

pub returns-clause-page : goal.returns-clause-page
returns-clause-page g c =
    let content = c.args.self.now.content in
    c.word.ensures.word ∙ sym (row_spelled (words_of content) content c.keeps_spelling.ensures).page
