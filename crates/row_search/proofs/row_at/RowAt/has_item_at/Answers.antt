use Rattle.std.proofs.Common.{[], sym, ap}
use Rattle.std.specs.Prelude.{false, is_some}
use Rattle.row_search.proofs.Words.{Child, Item, content_at_place, content_at_gap, items_of}
use Rattle.row_search.proofs.row_at.RowAt.has_item_at.Goals as goal

none : Item
none = record { key = []; content = Child 0 false }

pub returns-in-Ok-clause-has : goal.returns-in-Ok-clause-has
returns-in-Ok-clause-has g c =
    ap is_some (sym (content_at_place (items_of c.args.self.now.content) c.in-Ok.ensures.items c.args.key.now _ none c.in-Ok.ensures.found))

pub returns-in-Err-clause-has : goal.returns-in-Err-clause-has
returns-in-Err-clause-has g c = ap is_some (sym (content_at_gap _ _ _ c.in-Err.ensures.absent))
