use Rattle.walks.proofs.Words.{length, take, vec_capacity, ◌++◌, ◌+◌, ◌≡◌}
use Rattle.walks.proofs.scan.add.Given as goal

abbrev pub invariant-loop-key : goal.invariant-loop-key
invariant-loop-key g l = record {
  added : l.list.items ≡ l.initial.list.items ++ take l.key-index l.pairs;
  count : length l.list.items ≡ length l.initial.list.items + l.key-index;
  room : vec_capacity l.list ≡ vec_capacity l.initial.list;
}
