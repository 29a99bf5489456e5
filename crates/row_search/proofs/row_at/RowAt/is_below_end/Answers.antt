use Rattle.std.proofs.Common.{None, sym, ap, ◌∙◌}
use Rattle.row_search.proofs.Words.{is_gt, is_under, row_of}
use Rattle.row_search.proofs.RowTexts.{below_turned}
use Rattle.row_search.proofs.SaidLaws.{high_base, high_ends_not, high_merge, high_split}
use Rattle.row_search.proofs.row_at.RowAt.is_below_end.Goals as goal

pub returns-then-kind-eq-BASE-clause-ends : goal.returns-then-kind-eq-BASE-clause-ends
returns-then-kind-eq-BASE-clause-ends g c = c.is_below_second.ensures.under ∙ ap (is_under c.args.key.now) (high_base c.args.self.now.content (sym c.kind-kind.ensures ∙ c.if-kind-eq-BASE.true))

pub returns-then-kind-eq-SPLIT-clause-ends : goal.returns-then-kind-eq-SPLIT-clause-ends
returns-then-kind-eq-SPLIT-clause-ends g c =
    c.is_gt.ensures ∙ ap is_gt c.compare_first.ensures.compared ∙ sym (below_turned c.args.key.now (row_of c.args.self.now.content).first)
    ∙ ap (is_under c.args.key.now) (high_split c.args.self.now.content (sym c.kind-kind.ensures ∙ c.if-kind-eq-SPLIT.true))

pub returns-then-kind-eq-MERGE-clause-ends : goal.returns-then-kind-eq-MERGE-clause-ends
returns-then-kind-eq-MERGE-clause-ends g c = c.is_below_second-then-kind-eq-MERGE.ensures.under
    ∙ ap (is_under c.args.key.now) (high_merge c.args.self.now.content (sym c.kind-kind.ensures ∙ c.if-kind-eq-MERGE.true))

pub returns-clause-ends : goal.returns-clause-ends
returns-clause-ends g c =
    let k = c.kind-kind.ensures in
    sym (ap (is_under c.args.key.now) (high_ends_not c.args.self.now.content (λ e. c.if-kind-eq-BASE.false (k ∙ e)) (λ e. c.if-kind-eq-SPLIT.false (k ∙ e))
    (λ e. c.if-kind-eq-MERGE.false (k ∙ e)) None))
