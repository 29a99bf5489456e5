use Rattle.std.proofs.Common.{◌<◌, sym, ap, ◌∙◌, arith}
use Rattle.std.specs.Prelude.{Some}
use Rattle.base_page.specs.Pages.{value_in}
use Rattle.row_search.proofs.Words.{Content, row_of, words_of}
use Rattle.row_search.proofs.ItemReads.{child_there}
use Rattle.row_search.proofs.row_at.RowAt.value.Goals as goal

pub returns-then-level-gt0-clause-value : goal.returns-then-level-gt0-clause-value
returns-then-level-gt0-clause-value g c d =
    let content = c.args.self.now.content in
    let above : 0 < (row_of content).level = rw (← c.level.ensures) c.if-level-gt0.true in
    ap (λ (said : Content). value_in (Some said)) (child_there (words_of content) content c.keeps_spelling.ensures c.args.place d c.requires.there above)

pub leaf_value-requires-clause-leaf : goal.leaf_value-requires-clause-leaf
leaf_value-requires-clause-leaf g c = sym c.level.ensures ∙ omega (arith, c.if-level-gt0.false)

pub returns-clause-value : goal.returns-clause-value
returns-clause-value g c d = ap (λ (said : Content). value_in (Some said)) (c.leaf_value.ensures.value d)
