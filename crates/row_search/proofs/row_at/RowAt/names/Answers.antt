use Rattle.std.proofs.Common.{[], sym, ap, ◌∙◌}
use Rattle.std.specs.Prelude.{false}
use Rattle.row_search.proofs.Words.{Child, Item, items_of, key_cmp, not, is_eq, is_gt}
use Rattle.row_search.proofs.RowTexts.{first_is, has_item, names_put, names_single, names_split}
use Rattle.row_search.proofs.row_at.RowAt.names.Goals as goal

none : Item
none = record { key = []; content = Child 0 false }

pub compare_item-requires-clause-there : goal.compare_item-requires-clause-there
compare_item-requires-clause-there g c = has_item c.args.key.now c.args.self.now.content (sym c.kind-kind.ensures ∙ c.if-kind-eq-PUT.true)

pub returns-then-kind-eq-PUT-clause-names : goal.returns-then-kind-eq-PUT-clause-names
returns-then-kind-eq-PUT-clause-names g c =
    let content = c.args.self.now.content in
    let key = c.args.key.now in
    let put = sym c.kind-kind.ensures ∙ c.if-kind-eq-PUT.true in
    c.is_eq.ensures ∙ ap is_eq (c.compare_item.ensures.compared none ∙ ap (λ text. key_cmp text key) (first_is (items_of content) none (has_item key content put)))
    ∙ sym (names_put key content put)

pub returns-then-kind-eq-SPLIT-clause-names : goal.returns-then-kind-eq-SPLIT-clause-names
returns-then-kind-eq-SPLIT-clause-names g c = ap not (c.is_gt.ensures ∙ ap is_gt c.compare_first.ensures.compared) ∙ sym (names_split c.args.key.now c.args.self.now.content (sym c.kind-kind.ensures
    ∙ c.if-kind-eq-SPLIT.true))

pub returns-clause-names : goal.returns-clause-names
returns-clause-names g c =
    let k = c.kind-kind.ensures in
    c.is_eq-2.ensures ∙ ap is_eq c.compare_first-2.ensures.compared
    ∙ sym (names_single c.args.key.now c.args.self.now.content (λ e. c.if-kind-eq-BASE.false (k ∙ e)) (λ e. c.if-kind-eq-PUT.false (k ∙ e)) (λ e. c.if-kind-eq-SPLIT.false (k
    ∙ e)) (λ e. c.if-kind-eq-REMOVE.false (k ∙ e)) (λ e. c.if-kind-eq-MERGE.false (k ∙ e)))
