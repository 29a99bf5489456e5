use Rattle.std.proofs.Common.{[], sym, ap, ◌∙◌}
use Rattle.std.specs.Prelude.{false}
use Rattle.base_page.specs.Pages.{value_in}
use Rattle.row_search.proofs.Words.{Child, Item}
use Rattle.row_search.proofs.SaidLaws.{said_base, said_put, said_merge, no_value}
use Rattle.row_search.proofs.row_at.RowAt.value_said.Goals as goal

none : Item
none = record { key = []; content = Child 0 false }

pub returns-then-kind-eq-BASE-clause-said : goal.returns-then-kind-eq-BASE-clause-said
returns-then-kind-eq-BASE-clause-said g c =
    c.value_at.ensures.value ∙ ap value_in (said_base c.args.key.now c.args.self.now.content (sym c.kind-kind.ensures ∙ c.if-kind-eq-BASE.true))

pub returns-then-kind-eq-PUT-clause-said : goal.returns-then-kind-eq-PUT-clause-said
returns-then-kind-eq-PUT-clause-said g c =
    c.value.ensures.value none ∙ ap value_in (said_put c.args.key.now c.args.self.now.content none (sym c.kind-kind.ensures ∙ c.if-kind-eq-PUT.true))

pub returns-then-kind-eq-MERGE-clause-said : goal.returns-then-kind-eq-MERGE-clause-said
returns-then-kind-eq-MERGE-clause-said g c =
    c.value_at-then-kind-eq-MERGE.ensures.value ∙ ap value_in (said_merge c.args.key.now c.args.self.now.content (sym c.kind-kind.ensures ∙ c.if-kind-eq-MERGE.true))

pub returns-clause-said : goal.returns-clause-said
returns-clause-said g c =
    let k = c.kind-kind.ensures in
    no_value c.args.key.now c.args.self.now.content (λ e. c.if-kind-eq-BASE.false (k ∙ e)) (λ e. c.if-kind-eq-PUT.false (k ∙ e)) (λ e. c.if-kind-eq-MERGE.false (k ∙ e))
