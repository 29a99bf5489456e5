use Rattle.listing.proofs.Words.{◌≡◌, ◌≤◌, ◌+◌, drop, length, pairs_of}
use Rattle.listing.proofs.count.count_values.Given as goal

abbrev pub invariant-loop-item : goal.invariant-loop-item
invariant-loop-item l = record {
  counted : l.count + length (pairs_of (drop l.item-index l.item-items)) ≡ length (pairs_of l.item-items);
  few : l.count ≤ l.item-index;
}
