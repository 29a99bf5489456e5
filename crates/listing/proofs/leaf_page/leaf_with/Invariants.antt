use Rattle.listing.proofs.Words.{Memory, HasLeafPages}
use Rattle.listing.proofs.Finding.{IsOnWay}
use Rattle.listing.proofs.leaf_page.leaf_with.Given as goal

abbrev pub invariant-loop : goal.invariant-loop
invariant-loop g l = (memory : Memory) → g.M.RecordRows.has l.rows memory → (leaves : HasLeafPages l.limits memory) → IsOnWay memory leaves.pages l.from l.counter l.pid
