use Rattle.std.proofs.Common.{ap, arith, length}
use Rattle.tree_picture.proofs.Ranges.{few_base, few_delete}
use Rattle.tree_picture.proofs.says.with_record.Goals as goal

pub returns-in-Base-clause-short : goal.returns-in-Base-clause-short
returns-in-Base-clause-short c =
    rw c.in-Base.is (few_base c.in-Base.page (let few = c.as_slice.ensures.few in let same = ap length c.as_slice.ensures.items in let items =
    ap length c.items.ensures in omega (arith, few, same, items)))

pub returns-in-Delete-clause-short : goal.returns-in-Delete-clause-short
returns-in-Delete-clause-short c = rw c.in-Delete.is (few_delete c.in-Delete.delete)
