use Rattle.std.proofs.Common.{◌≡◌, ◌/◌, get_or, sym, ap, ◌∙◌, arith}
use Rattle.std.specs.Prelude.{Some}
use Rattle.row_search.specs.Placed.{PlacedRecord}
use Rattle.row_search.proofs.Words.{words_of, row_spelled}
use Rattle.row_search.proofs.RowTexts.{next_there, next_word}
use Rattle.row_search.proofs.row_at.RowAt.next.Goals as goal

pub overflow_cast-result : goal.overflow_cast-result
overflow_cast-result g c =
    let content = c.args.self.now.content in
    let is = row_spelled (words_of content) content c.keeps_spelling.ensures in
    let small = is.is.next in
    let same = is.next in
    let word : c.self.inside.first / 4294967296 ≡ get_or (words_of content) 1 0 =
    c.self.invariant.1.next c.if-self-ne-FORM.true ∙ ap (λ (p : PlacedRecord). get_or (words_of p.content) 1 0) c.self.view_is in
    omega arith

pub overflow_cast-result-2 : goal.overflow_cast-result-2
overflow_cast-result-2 g c =
    let content = c.args.self.now.content in
    let is = row_spelled (words_of content) content c.keeps_spelling.ensures in
    let small = is.is.next in
    let same = is.next in
    let word = c.word.ensures.word in
    omega arith

pub returns-then-kind-eq-BASE-clause-next : goal.returns-then-kind-eq-BASE-clause-next
returns-then-kind-eq-BASE-clause-next g c = let content = c.args.self.now.content in sym (next_there (words_of content) content c.keeps_spelling.ensures (sym c.kind.ensures ∙ c.if-kind-eq-BASE.true))

pub returns-then-self-ne-FORM-clause-next : goal.returns-then-self-ne-FORM-clause-next
returns-then-self-ne-FORM-clause-next g c =
    let content = c.args.self.now.content in
    let word : c.self.inside.first / 4294967296 ≡ get_or (words_of content) 1 0 =
    c.self.invariant.1.next c.if-self-ne-FORM.true ∙ ap (λ (p : PlacedRecord). get_or (words_of p.content) 1 0) c.self.view_is in
    ap Some word ∙ sym (next_word (words_of content) content c.keeps_spelling.ensures (λ e. c.if-kind-eq-BASE.false (c.kind.ensures ∙ e)))

pub returns-clause-next : goal.returns-clause-next
returns-clause-next g c =
    let content = c.args.self.now.content in
    ap Some c.word.ensures.word ∙ sym (next_word (words_of content) content c.keeps_spelling.ensures (λ e. c.if-kind-eq-BASE.false (c.kind.ensures ∙ e)))
