use Rattle.walks.proofs.Words.{drop, length, reverse, vec_capacity, ◌++◌, ◌+◌, ◌≡◌}
use Rattle.walks.proofs.back_scan.add_reversed.Given as goal

abbrev pub invariant-loop-place : goal.invariant-loop-place
invariant-loop-place g l = record {
  added : l.list.items ≡ l.initial.list.items ++ reverse (drop l.place l.pairs);
  count : length l.list.items + l.place ≡ length l.initial.list.items + length l.pairs;
  room : vec_capacity l.list ≡ vec_capacity l.initial.list;
}
