use Rattle.std.proofs.Common.{◌≡◌, ◌<◌, ℕ, zero, suc, false, List, [], get_or, sym, ap, ◌∙◌, arith}
use Rattle.std.specs.Prelude.{Some}
use Rattle.row_search.proofs.Words.{Content, Child, Item, child_in, row_of, words_of}
use Rattle.row_search.proofs.ItemReads.{child_there, page_fits, value_there}
use Rattle.row_search.proofs.SaidItems.{one_child, standing}
use Rattle.row_search.proofs.row_at.RowAt.child_at.Goals as goal

none : Item
none = record { key = []; content = Child 0 false }

pub returns-then-is_term-clause-child : goal.returns-then-is_term-clause-child
returns-then-is_term-clause-child g c d =
    ap Some c.page.ensures.page ∙ one_child c.args.self.now.content (sym c.is_term.ensures ∙ c.if-is_term.true) c.args.place d c.requires.there

pub returns-then-level-eq0-clause-child : goal.returns-then-level-eq0-clause-child
returns-then-level-eq0-clause-child g c d =
    let content = c.args.self.now.content in
    let is = standing content (sym c.is_term.ensures ∙ c.if-is_term.false) in
    let within = rw is at c.requires.there in
    let leaf : (row_of content).level ≡ 0 = sym c.level.ensures ∙ c.if-level-eq0.true in
    let there = value_there (words_of content) content c.keeps_spelling.ensures c.args.place d within leaf in
    ap (λ (said : Content). child_in (Some said)) there.1.0 ∙ ap (λ (items : List Item). child_in (Some (get_or items c.args.place d).content)) (sym is)

pub length-page-requires-clause-there : goal.length-page-requires-clause-there
length-page-requires-clause-there g c = rw (← standing c.args.self.now.content (sym c.is_term.ensures ∙ c.if-is_term.false)) c.requires.there

above : (level result : ℕ) → result ≡ level → (result ≡ 0 → ⊥) → 0 < level
above zero result e f = absurd (f e)
above (suc level) result e f = omega arith

pub overflow_cast-page : goal.overflow_cast-page
overflow_cast-page g c =
    let content = c.args.self.now.content in
    let words = words_of content in
    let within = rw (standing content (sym c.is_term.ensures ∙ c.if-is_term.false)) at c.requires.there in
    let index = above (row_of content).level c.level.result c.level.ensures c.if-level-eq0.false in
    let few = page_fits words content c.keeps_spelling.ensures c.args.place none within index in
    let word = c.length-page.ensures.word in
    omega arith

pub returns-clause-child : goal.returns-clause-child
returns-clause-child g c d =
    let content = c.args.self.now.content in
    let words = words_of content in
    let is = standing content (sym c.is_term.ensures ∙ c.if-is_term.false) in
    let within = rw (standing content (sym c.is_term.ensures ∙ c.if-is_term.false)) at c.requires.there in
    let index = above (row_of content).level c.level.result c.level.ensures c.if-level-eq0.false in
    (λ i. Some (c.length-page.ensures.word i))
    ∙ ap (λ (said : Content). child_in (Some said)) (child_there words content c.keeps_spelling.ensures c.args.place d within index)
    ∙ ap (λ (items : List Item). child_in (Some (get_or items c.args.place d).content)) (sym is)
