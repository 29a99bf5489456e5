use Rattle.std.proofs.Common.{◌≡◌, [], false, Some, length, get_or, sym, ap, ◌∙◌, arith}
use Rattle.row_search.proofs.Words.{option_map, Child, Item, Record, items_of, row_of, put_of}
use Rattle.base_page.specs.Pages.{value_in}
use Rattle.row_search.proofs.ChangeLaws.{no_put, put_is}
use Rattle.row_search.proofs.row_at.RowAt.put.Goals as goal

none : Item
none = record { key = []; content = Child 0 false }

pub item-requires-clause-there : goal.item-requires-clause-there
item-requires-clause-there g c =
    let content = c.args.self.now.content in
    let is = put_is content (sym c.kind.ensures ∙ c.if-kind-eq-PUT.true) in
    let one : length (items_of content) ≡ 1 = ap (λ (r : Record). length (items_of r)) is.1 in
    omega arith

pub returns-then-kind-eq-PUT-clause-put : goal.returns-then-kind-eq-PUT-clause-put
returns-then-kind-eq-PUT-clause-put g c =
    let content = c.args.self.now.content in
    let is = put_is content (sym c.kind.ensures ∙ c.if-kind-eq-PUT.true) in
    let next : c.under-next.result ≡ is.0.next = c.under-next.ensures.under ∙ ap (λ (r : Record). (row_of r).next) is.1 in
    let item = c.item.ensures.item none ∙ ap (λ (r : Record). get_or (items_of r) 0 none) is.1 in
    c.put_from.ensures ∙ (λ i. option_map (λ value. record { next = next i; key = (item i).key; value = value }) (value_in (Some (item i).content))) ∙ sym (ap put_of is.1)

pub returns-clause-put : goal.returns-clause-put
returns-clause-put g c = no_put c.args.self.now.content (λ e. c.if-kind-eq-PUT.false (c.kind.ensures ∙ e))
