use Rattle.listing.proofs.Words.{List, drop, Memory, Record, Makes, StandsAt}
use Rattle.listing.proofs.page.page_of.Given as goal

abbrev pub invariant-loop-place : goal.invariant-loop-place
invariant-loop-place g l = (memory : Memory) (chain : List Record) → g.M.RecordRows.has l.rows memory → StandsAt memory l.pid chain → Makes (drop l.place chain) l.page
