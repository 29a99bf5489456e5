use Rattle.std.proofs.Common.{Some, sym, ap, ◌∙◌}
use Rattle.row_search.proofs.Words.{Record, row_of, delete_of}
use Rattle.row_search.proofs.ChangeLaws.{delete_is, no_delete}
use Rattle.row_search.proofs.row_at.RowAt.delete.Goals as goal

pub returns-then-kind-eq-DELETE-clause-delete : goal.returns-then-kind-eq-DELETE-clause-delete
returns-then-kind-eq-DELETE-clause-delete g c =
    let content = c.args.self.now.content in
    let is = delete_is content (sym c.kind.ensures ∙ c.if-kind-eq-DELETE.true) in
    let next = c.under-next.ensures.under ∙ ap (λ (r : Record). (row_of r).next) is.1 in
    let key = c.first-key.ensures.first ∙ ap (λ (r : Record). (row_of r).first) is.1 in
    (λ i. Some (record { next = next i; key = key i })) ∙ sym (ap delete_of is.1)

pub returns-clause-delete : goal.returns-clause-delete
returns-clause-delete g c = no_delete c.args.self.now.content (λ e. c.if-kind-eq-DELETE.false (c.kind.ensures ∙ e))
