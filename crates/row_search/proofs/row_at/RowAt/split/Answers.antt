use Rattle.std.proofs.Common.{Some, sym, ap, ◌∙◌}
use Rattle.row_search.proofs.Words.{Record, row_of, split_of}
use Rattle.row_search.proofs.ChangeLaws.{no_split, split_is}
use Rattle.row_search.proofs.row_at.RowAt.split.Goals as goal

pub returns-then-kind-eq-SPLIT-clause-split : goal.returns-then-kind-eq-SPLIT-clause-split
returns-then-kind-eq-SPLIT-clause-split g c =
    let content = c.args.self.now.content in
    let is = split_is content (sym c.kind.ensures ∙ c.if-kind-eq-SPLIT.true) in
    let level = c.level.ensures ∙ ap (λ (r : Record). (row_of r).level) is.1 in
    let next = c.under.ensures.under ∙ ap (λ (r : Record). (row_of r).next) is.1 in
    let separator = c.first.ensures.first ∙ ap (λ (r : Record). (row_of r).first) is.1 in
    let page = c.page.ensures.page ∙ ap (λ (r : Record). (row_of r).page) is.1 in
    (λ i. Some (record { level = level i; next = next i; separator = separator i; page = page i })) ∙ sym (ap split_of is.1)

pub returns-clause-split : goal.returns-clause-split
returns-clause-split g c = no_split c.args.self.now.content (λ e. c.if-kind-eq-SPLIT.false (c.kind.ensures ∙ e))
