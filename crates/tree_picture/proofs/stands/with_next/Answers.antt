use Rattle.std.proofs.Common.{◌^◌, ◌<◌, subst}
use Rattle.tree_picture.proofs.Standing.{few_row}
use Rattle.tree_picture.proofs.stands.with_next.Goals as goal

pub returns-in-Some-clause-short : goal.returns-in-Some-clause-short
returns-in-Some-clause-short c = rw c.in-Some.is (few_row c.in-Some.row (rw c.from.ensures at c.from.type_inv))
