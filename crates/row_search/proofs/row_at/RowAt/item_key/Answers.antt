use Rattle.std.proofs.Common.{◌+◌, ◌*◌, ◌%◌, [], ap, refl, ◌∙◌}
use Rattle.std.specs.Prelude.{false}
use Rattle.row_search.proofs.Words.{Child, Item, held_mark, item_size, items_at, words_of}
use Rattle.row_search.proofs.ItemReads.{few_there, key_text, text_there}
use Rattle.row_search.proofs.row_at.RowAt.item_key.Goals as goal

none : Item
none = record { key = []; content = Child 0 false }

pub key-requires-clause-few : goal.key-requires-clause-few
key-requires-clause-few g c =
    let content = c.args.self.now.content in
    few_there (ap (λ n. n % held_mark) c.length-count.ensures.word)
    (key_text (words_of content) content c.keeps_spelling.ensures c.args.place none c.requires.there (items_at + item_size * c.args.place) refl)

pub returns-clause-key : goal.returns-clause-key
returns-clause-key g c d =
    let content = c.args.self.now.content in
    c.key.ensures.key ∙ text_there (ap (λ n. n % held_mark) c.length-count.ensures.word)
    (key_text (words_of content) content c.keeps_spelling.ensures c.args.place d c.requires.there (items_at + item_size * c.args.place) refl)
