use Rattle.row_chain.proofs.Words.{Child, Item, items_said}
use Rattle.std.proofs.Common.{[]}
use Rattle.std.specs.Prelude.{false}
use Rattle.row_chain.proofs.Passing.{at_passes, below_passes, gap_passes}
use Rattle.row_chain.proofs.chain.walk.passing.Goals as goal

none : Item
none = record { key = []; content = Child 0 false }

pub returns-then-below-clause-passed : goal.returns-then-below-clause-passed
returns-then-below-clause-passed g c =
    below_passes (items_said c.args.row.now.content) c.in-Ok.ensures.items c.args.bound.now c.in-Ok.place none c.in-Ok.ensures.found c.args.below c.if-below.true

pub returns-else-below-clause-passed : goal.returns-else-below-clause-passed
returns-else-below-clause-passed g c =
    at_passes (items_said c.args.row.now.content) c.in-Ok.ensures.items c.args.bound.now c.in-Ok.place none c.in-Ok.ensures.found c.args.below c.if-below.false

pub returns-in-Err-clause-passed : goal.returns-in-Err-clause-passed
returns-in-Err-clause-passed g c = gap_passes (items_said c.args.row.now.content) c.args.below c.args.bound.now c.in-Err.place c.in-Err.ensures.absent
