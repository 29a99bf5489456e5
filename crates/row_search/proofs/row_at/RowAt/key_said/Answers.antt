use Rattle.std.proofs.Common.{◌+◌, ◌%◌, ℕ, [], get_or, take, drop, ap, ◌∙◌}
use Rattle.std.specs.Prelude.{false}
use Rattle.row_search.proofs.Words.{Child, Item, held_mark, text_size, words_of, items_said, text_in}
use Rattle.row_search.proofs.ItemReads.{text_is, text_stands}
use Rattle.row_search.specs.TextsOf.{length_at}
use Rattle.row_search.proofs.row_at.RowAt.key_said.Goals as goal

none : Item
none = record { key = []; content = Child 0 false }

pub at-requires-clause-text : goal.at-requires-clause-text
at-requires-clause-text g c =
    let content = c.args.self.now.content in
    let words = words_of content in
    let at : ℕ = length_at c.said_at-text.result in
    rw c.length-count.ensures.word
    (text_stands (get_or words at 0 % held_mark) (take text_size (drop (at + 1) words)) (get_or (items_said content) c.args.place none).key (c.said_at-text.ensures.text none))

pub returns-clause-key : goal.returns-clause-key
returns-clause-key g c d =
    let content = c.args.self.now.content in
    let words = words_of content in
    let at : ℕ = length_at c.said_at-text.result in
    c.at.ensures.key ∙ ap (λ (n : ℕ). text_in (n % held_mark) (drop (at + 1) words)) c.length-count.ensures.word
    ∙ text_is (get_or words at 0 % held_mark) (take text_size (drop (at + 1) words)) (get_or (items_said content) c.args.place d).key (c.said_at-text.ensures.text d)
