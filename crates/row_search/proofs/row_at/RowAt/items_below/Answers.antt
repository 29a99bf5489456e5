use Rattle.std.proofs.Common.{[]}
use Rattle.std.specs.Prelude.{false}
use Rattle.row_search.proofs.Words.{Child, items_of}
use Rattle.base_page.proofs.PlaceLaws.{IsCut-at, IsCut-gap}
use Rattle.row_search.proofs.row_at.RowAt.items_below.Goals as goal

pub returns-in-Ok-clause-cut : goal.returns-in-Ok-clause-cut
returns-in-Ok-clause-cut g c = IsCut-at (items_of c.args.self.now.content) c.in-Ok.ensures.items c.args.bound.now c.in-Ok.place (record { key = []; content = Child 0 false }) c.in-Ok.ensures.found

pub returns-in-Err-clause-cut : goal.returns-in-Err-clause-cut
returns-in-Err-clause-cut g c = IsCut-gap (items_of c.args.self.now.content) c.args.bound.now c.in-Err.place c.in-Err.ensures.absent
