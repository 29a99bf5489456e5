use Rattle.base_page.proofs.OrderLaws.{AreInOrder}
use Rattle.base_page.proofs.items.Items.ordered.Given as goal

abbrev pub invariant-loop-place : goal.invariant-loop-place
invariant-loop-place l = AreInOrder l.items.items l.place
