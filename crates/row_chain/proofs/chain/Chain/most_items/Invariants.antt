use Rattle.row_chain.proofs.Words.{◌≤◌, ◌+◌, length, drop, Item, IsItemsOf, contents}
use Rattle.std.proofs.Common.{◌*◌, List}
use Rattle.row_chain.proofs.chain.Chain.most_items.Given as goal

abbrev pub invariant-loop-place : goal.invariant-loop-place
invariant-loop-place g l = record {
  short : length l.records ≤ 13;
  few : l.most ≤ 24 * l.place;
  most : (items rest : List Item) → IsItemsOf l.self.records items → IsItemsOf (contents (drop l.place l.records)) rest → length items ≤ length rest + l.most;
}
