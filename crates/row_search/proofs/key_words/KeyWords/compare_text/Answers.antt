use Rattle.std.proofs.Common.{◌%◌, ℕ, length, get_or, ap, sym, ◌∙◌}
use Rattle.row_search.proofs.Words.{nat_cmp, held_mark, row_words_of}
use Rattle.row_search.specs.TextsOf.{length_at}
use Rattle.row_search.proofs.key_words.KeyWords.compare_text.Goals as goal

pub returns-then-not-is_eq-clause-compared : goal.returns-then-not-is_eq-clause-compared
returns-then-not-is_eq-clause-compared g c text is =
    c.compare_words-order.ensures.other (sym c.is_eq.ensures ∙ c.if-not-is_eq.true) (get_or (row_words_of c.args.row.now) (length_at c.args.text) 0 % held_mark) text is

pub returns-clause-compared : goal.returns-clause-compared
returns-clause-compared g c text is =
    let count : ℕ = get_or (row_words_of c.args.row.now) (length_at c.args.text) 0 % held_mark in
    c.cmp.ensures ∙ ap (λ (w : ℕ). nat_cmp (w % held_mark) c.self.inside.count) c.length.ensures.word
    ∙ ap (nat_cmp count) (sym c.self.invariant.counts ∙ ap length c.self.view_is)
    ∙ c.compare_words-order.ensures.alike (sym c.is_eq.ensures ∙ c.if-not-is_eq.false) count text is
