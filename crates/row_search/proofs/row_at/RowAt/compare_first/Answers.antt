use Rattle.std.proofs.Common.{◌≡◌, ◌%◌, get_or, arith}
use Rattle.row_search.proofs.Words.{first_at, held_mark, row_of, words_of}
use Rattle.row_search.proofs.RowTexts.{first_text}
use Rattle.row_search.proofs.row_at.RowAt.compare_first.Goals as goal

pub returns-clause-compared : goal.returns-clause-compared
returns-clause-compared g c =
    let content = c.args.self.now.content in
    let text = first_text (words_of content) content c.keeps_spelling.ensures in
    let counts = text.counts in
    let short = text.short.short in
    let small : get_or (words_of content) first_at 0 ≡ get_or (words_of content) first_at 0 % held_mark = omega (arith, counts, short) in
    c.compare_text.ensures.compared (row_of content).first (rw (← small) text)
