use Rattle.std.proofs.Common.{sym, ap, ◌∙◌}
use Rattle.row_search.proofs.Words.{option_map, key_cmp, row_of, words_of, row_spelled}
use Rattle.row_search.proofs.RowTexts.{second_by}
use Rattle.row_search.proofs.Bounds.{unbounded}
use Rattle.row_search.proofs.row_at.RowAt.compare_second.Goals as goal

pub returns-then-count-eq-NO_BOUND-clause-compared : goal.returns-then-count-eq-NO_BOUND-clause-compared
returns-then-count-eq-NO_BOUND-clause-compared g c =
    let content = c.args.self.now.content in
    let is = row_spelled (words_of content) content c.keeps_spelling.ensures in
    ap (option_map (λ bound. key_cmp bound c.args.key.now)) (unbounded (words_of content) (row_of content).second is.is.second is.second
    (sym c.length-count.ensures.word ∙ c.if-count-eq-NO_BOUND.true))

pub returns-clause-compared : goal.returns-clause-compared
returns-clause-compared g c =
    let content = c.args.self.now.content in
    let is = row_spelled (words_of content) content c.keeps_spelling.ensures in
    second_by c.args.key.now (words_of content) (row_of content).second is.is.second is.second (λ e. c.if-count-eq-NO_BOUND.false (c.length-count.ensures.word ∙ e)) c.compare_of.result
    (λ text is'. c.compare_of.ensures.compared text (rw c.length-count.ensures.word is'))
