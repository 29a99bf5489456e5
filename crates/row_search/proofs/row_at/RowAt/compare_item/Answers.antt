use Rattle.std.proofs.Common.{◌+◌, ◌*◌, ℕ, get_or, refl}
use Rattle.row_search.proofs.Words.{item_size, items_at, items_of, words_of}
use Rattle.row_search.proofs.ItemReads.{key_text}
use Rattle.row_search.proofs.row_at.RowAt.compare_item.Goals as goal

pub returns-clause-compared : goal.returns-clause-compared
returns-clause-compared g c d =
    let content = c.args.self.now.content in
    let at : ℕ = items_at + item_size * c.args.place in
    c.compare_text.ensures.compared (get_or (items_of content) c.args.place d).key (key_text (words_of content) content c.keeps_spelling.ensures c.args.place d c.requires.there at refl)
