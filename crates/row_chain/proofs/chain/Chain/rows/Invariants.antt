use Rattle.row_chain.proofs.Words.{◌≡◌, ◌≤◌, ◌++◌, length, drop, map, PlacedRecord}
use Rattle.row_chain.proofs.chain.Chain.rows.Given as goal

abbrev pub invariant-loop-record : goal.invariant-loop-record
invariant-loop-record g l = record {
  short : length l.record-items ≤ 13;
  count : length l.rows.items ≡ l.record-index;
  rows : l.rows.items ++ map (λ (placed : PlacedRecord). placed.row) (drop l.record-index l.record-items) ≡ map (λ (placed : PlacedRecord). placed.row) l.record-items;
}
