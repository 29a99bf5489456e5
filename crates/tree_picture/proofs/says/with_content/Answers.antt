use Rattle.tree_picture.proofs.Ranges.{few_value}
use Rattle.tree_picture.proofs.says.with_content.Goals as goal

pub returns-in-Value : goal.returns-in-Value
returns-in-Value c = rw c.in-Value.is (record { adds = rw c.as_slice.ensures.bytes at c.with_token.ensures; short = few_value c.in-Value.value })

pub returns-in-Child : goal.returns-in-Child
returns-in-Child c = rw c.in-Child.is (record { adds = c.with_page.ensures.adds; short = c.with_page.ensures.short })
