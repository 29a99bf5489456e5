use Rattle.std.proofs.Common.{◌<◌, [], sym, ◌∙◌, arith}
use Rattle.std.specs.Prelude.{false, nat_le}
use Rattle.row_search.proofs.Words.{Child, Item, held_mark, row_of, words_of}
use Rattle.row_search.proofs.ItemReads.{child_there, page_fits}
use Rattle.row_search.proofs.row_at.RowAt.content_in.Goals as goal

none : Item
none = record { key = []; content = Child 0 false }

pub overflow_cast-page : goal.overflow_cast-page
overflow_cast-page g c =
    let content = c.args.self.now.content in
    let words = words_of content in
    let above : 0 < (row_of content).level = rw (← c.level.ensures) c.if-level-gt0.true in
    let few = page_fits words content c.keeps_spelling.ensures c.args.place none c.requires.there above in
    let word = c.length-page.ensures.word in
    omega arith

pub returns-then-level-gt0-clause-content : goal.returns-then-level-gt0-clause-content
returns-then-level-gt0-clause-content g c d =
    let content = c.args.self.now.content in
    let words = words_of content in
    let above : 0 < (row_of content).level = rw (← c.level.ensures) c.if-level-gt0.true in
    (λ i. Child (c.length-page.ensures.word i) (nat_le held_mark (c.length-held.ensures.word i)))
    ∙ child_there words content c.keeps_spelling.ensures c.args.place d c.requires.there above

pub leaf_value-requires-clause-leaf : goal.leaf_value-requires-clause-leaf
leaf_value-requires-clause-leaf g c = sym c.level.ensures ∙ omega (arith, c.if-level-gt0.false)
