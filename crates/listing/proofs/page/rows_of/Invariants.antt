use Rattle.listing.proofs.Words.{◌≡◌, List, length, Memory, Record, StandsAt}
use Rattle.listing.proofs.Chaining.{HasRead}
use Rattle.listing.proofs.page.rows_of.Given as goal

abbrev pub invariant-loop : goal.invariant-loop
invariant-loop g l = record {
  count : length l.chain.items ≡ l.counter;
  read : (memory : Memory) (chain : List Record) → g.M.RecordRows.has l.rows memory → StandsAt memory l.pid chain → HasRead memory.rows (memory.slots l.pid) chain l.chain.items l.row;
}
