use Rattle.row_chain.proofs.Words.{◌≡◌, ◌≤◌, ◌+◌, length, drop, Item, IsItemsOf, count_under, contents}
use Rattle.std.proofs.Common.{◌*◌, List}
use Rattle.row_chain.proofs.chain.Chain.item_count.Given as goal

abbrev pub invariant-loop-place : goal.invariant-loop-place
invariant-loop-place g l = record {
  same : l.pass ≡ l.initial.pass;
  short : length l.records ≤ 13;
  more : l.more ≤ 24 * l.place;
  fewer : l.fewer ≤ l.place;
  count : (items rest : List Item) → IsItemsOf l.self.records items → IsItemsOf (contents (drop l.place l.records)) rest → length items + l.fewer ≡ count_under l.bound rest + l.more;
}
