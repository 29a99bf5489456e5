use Rattle.std.proofs.Common.{◌≡◌, ◌+◌, ◌-◌, ◌++◌, length, replicate}
use Rattle.record_slots.proofs.write.push_zeros.Given as goal

abbrev pub invariant-loop : goal.invariant-loop
invariant-loop l = record {
  written : l.row ++ replicate (l.count - l.counter) 0 ≡ l.initial.row ++ replicate l.count 0;
  counts : length l.row ≡ length l.initial.row + l.counter;
}
