use Rattle.std.proofs.Common.{[], sym, ap, ◌∙◌}
use Rattle.std.specs.Prelude.{false}
use Rattle.base_page.specs.Pages.{value_in}
use Rattle.row_search.proofs.Words.{Child, Item, content_at_place, content_at_gap, items_of}
use Rattle.row_search.proofs.row_at.RowAt.value_at.Goals as goal

none : Item
none = record { key = []; content = Child 0 false }

pub returns-in-Ok-clause-value : goal.returns-in-Ok-clause-value
returns-in-Ok-clause-value g c =
    c.value.ensures.value none
    ∙ ap value_in (sym (content_at_place (items_of c.args.self.now.content) c.in-Ok.ensures.items c.args.key.now c.in-Ok.place none c.in-Ok.ensures.found))

pub returns-in-Err-clause-value : goal.returns-in-Err-clause-value
returns-in-Err-clause-value g c = ap value_in (sym (content_at_gap _ _ _ c.in-Err.ensures.absent))
