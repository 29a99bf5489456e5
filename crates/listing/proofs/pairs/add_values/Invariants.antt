use Rattle.listing.proofs.Words.{◌≡◌, ◌≤◌, ◌+◌, ◌++◌, drop, length, pairs_of}
use Rattle.std.specs.Vec.{vec_capacity}
use Rattle.listing.proofs.pairs.add_values.Given as goal

abbrev pub invariant-loop-item : goal.invariant-loop-item
invariant-loop-item g l = record {
  items : l.pairs.items ++ pairs_of (drop l.item-index l.item-items) ≡ l.initial.pairs.items ++ pairs_of l.item-items;
  count : length l.pairs.items ≤ length l.initial.pairs.items + l.item-index;
  capacity : vec_capacity l.initial.pairs ≤ vec_capacity l.pairs;
}
