use Rattle.std.proofs.Common.{ℕ, suc, take, drop, get_or, ap, ◌∙◌}
use Rattle.row_search.proofs.Words.{first_at, text_size, row_of, words_of, text_in}
use Rattle.row_search.proofs.ItemReads.{text_is, text_stands}
use Rattle.row_search.proofs.RowTexts.{first_text}
use Rattle.row_search.proofs.row_at.RowAt.first_words.Goals as goal

pub at-requires-clause-text : goal.at-requires-clause-text
at-requires-clause-text g c =
    let content = c.args.self.now.content in
    let words = words_of content in
    rw c.length-count.ensures.word
    (text_stands (get_or words first_at 0) (take text_size (drop (suc first_at) words)) (row_of content).first (first_text words content c.keeps_spelling.ensures))

pub returns-clause-key : goal.returns-clause-key
returns-clause-key g c =
    let content = c.args.self.now.content in
    let words = words_of content in
    c.at.ensures.key ∙ ap (λ (n : ℕ). text_in n (drop (suc first_at) words)) c.length-count.ensures.word
    ∙ text_is (get_or words first_at 0) (take text_size (drop (suc first_at) words)) (row_of content).first (first_text words content c.keeps_spelling.ensures)
