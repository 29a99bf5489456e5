use Rattle.std.proofs.Common.{length, ap, sym, ◌∙◌}
use Rattle.row_search.proofs.Words.{nat_cmp}
use Rattle.row_search.proofs.key_words.KeyWords.compare_of.Goals as goal

pub returns-then-not-is_eq-clause-compared : goal.returns-then-not-is_eq-clause-compared
returns-then-not-is_eq-clause-compared g c text is = c.compare_words-order.ensures.other (sym c.is_eq.ensures ∙ c.if-not-is_eq.true) c.args.count text is

pub returns-clause-compared : goal.returns-clause-compared
returns-clause-compared g c text is =
    c.cmp.ensures ∙ ap (nat_cmp c.args.count) (sym c.self.invariant.counts ∙ ap length c.self.view_is)
    ∙ c.compare_words-order.ensures.alike (sym c.is_eq.ensures ∙ c.if-not-is_eq.false) c.args.count text is
