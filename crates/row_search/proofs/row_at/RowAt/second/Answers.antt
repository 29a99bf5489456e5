use Rattle.std.proofs.Common.{◌≡◌, ap, get_or, sym, ◌∙◌}
use Rattle.std.specs.Prelude.{Some}
use Rattle.row_search.proofs.Words.{no_bound, row_of, row_spelled, second_at, words_of}
use Rattle.row_search.proofs.Bounds.{unbounded}
use Rattle.row_search.proofs.ItemReads.{few_there, second_text, second_there, text_there}
use Rattle.row_search.proofs.row_at.RowAt.second.Goals as goal

pub returns-then-count-eq-NO_BOUND-clause-second : goal.returns-then-count-eq-NO_BOUND-clause-second
returns-then-count-eq-NO_BOUND-clause-second g c =
    let content = c.args.self.now.content in
    let is = row_spelled (words_of content) content c.keeps_spelling.ensures in
    unbounded (words_of content) (row_of content).second is.is.second is.second (sym c.length-count.ensures.word ∙ c.if-count-eq-NO_BOUND.true)

pub key-requires-clause-few : goal.key-requires-clause-few
key-requires-clause-few g c =
    let content = c.args.self.now.content in
    let is = row_spelled (words_of content) content c.keeps_spelling.ensures in
    let there = second_text (words_of content) (row_of content).second is.is.second is.second (λ e. c.if-count-eq-NO_BOUND.false (c.length-count.ensures.word ∙ e)) in
    few_there c.length-count.ensures.word there.1

pub returns-clause-second : goal.returns-clause-second
returns-clause-second g c =
    let content = c.args.self.now.content in
    let is = row_spelled (words_of content) content c.keeps_spelling.ensures in
    let bounded : get_or (words_of content) second_at 0 ≡ no_bound → ⊥ = λ e. c.if-count-eq-NO_BOUND.false (c.length-count.ensures.word ∙ e) in
    let there = second_text (words_of content) (row_of content).second is.is.second is.second bounded in
    ap Some (c.key.ensures.key ∙ text_there c.length-count.ensures.word there.1)
    ∙ second_there (words_of content) (row_of content).second is.is.second is.second bounded there.0 there.1
