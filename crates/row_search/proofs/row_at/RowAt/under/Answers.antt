use Rattle.std.proofs.Common.{sym, ◌∙◌, arith}
use Rattle.row_search.proofs.Words.{words_of, row_spelled}
use Rattle.row_search.proofs.row_at.RowAt.under.Goals as goal

pub overflow_cast-result : goal.overflow_cast-result
overflow_cast-result g c =
    let content = c.args.self.now.content in
    let is = row_spelled (words_of content) content c.keeps_spelling.ensures in
    let small = is.is.next in
    let same = is.next in
    let word = c.word.ensures.word in
    omega arith

pub returns-clause-under : goal.returns-clause-under
returns-clause-under g c = c.word.ensures.word ∙ sym (row_spelled (words_of c.args.self.now.content) c.args.self.now.content c.keeps_spelling.ensures).next
