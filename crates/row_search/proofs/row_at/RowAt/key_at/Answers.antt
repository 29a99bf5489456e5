use Rattle.std.proofs.Common.{◌+◌, ◌*◌, ◌%◌, ℕ, [], refl, get_or, take, drop, ap, ◌∙◌}
use Rattle.std.specs.Prelude.{false}
use Rattle.row_search.proofs.Words.{Child, Item, held_mark, item_size, items_at, text_size, items_of, words_of, text_in}
use Rattle.row_search.proofs.ItemReads.{key_text, text_is, text_stands}
use Rattle.row_search.proofs.row_at.RowAt.key_at.Goals as goal

none : Item
none = record { key = []; content = Child 0 false }

pub at-requires-clause-text : goal.at-requires-clause-text
at-requires-clause-text g c =
    let content = c.args.self.now.content in
    let words = words_of content in
    let at : ℕ = items_at + item_size * c.args.place in
    rw c.length-count.ensures.word
    (text_stands (get_or words at 0 % held_mark) (take text_size (drop (at + 1) words)) (get_or (items_of content) c.args.place none).key
    (key_text words content c.keeps_spelling.ensures c.args.place none c.requires.there at refl))

pub returns-clause-key : goal.returns-clause-key
returns-clause-key g c d =
    let content = c.args.self.now.content in
    let words = words_of content in
    let at : ℕ = items_at + item_size * c.args.place in
    c.at.ensures.key ∙ ap (λ (n : ℕ). text_in (n % held_mark) (drop (at + 1) words)) c.length-count.ensures.word
    ∙ text_is (get_or words at 0 % held_mark) (take text_size (drop (at + 1) words)) (get_or (items_of content) c.args.place d).key
    (key_text words content c.keeps_spelling.ensures c.args.place d c.requires.there at refl)
