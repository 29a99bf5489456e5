use Rattle.std.proofs.Common.{[], Some, sym, ap, ◌∙◌}
use Rattle.std.specs.Prelude.{false}
use Rattle.row_search.proofs.Words.{Child, Item, content_at_place, content_at_gap, items_of}
use Rattle.row_search.proofs.row_at.RowAt.content_at.Goals as goal

none : Item
none = record { key = []; content = Child 0 false }

pub returns-in-Ok-clause-content : goal.returns-in-Ok-clause-content
returns-in-Ok-clause-content g c =
    ap Some (c.content.ensures.content none)
    ∙ sym (content_at_place (items_of c.args.self.now.content) c.in-Ok.ensures.items c.args.key.now c.in-Ok.place none c.in-Ok.ensures.found)

pub returns-in-Err-clause-content : goal.returns-in-Err-clause-content
returns-in-Err-clause-content g c = sym (content_at_gap _ _ _ c.in-Err.ensures.absent)
