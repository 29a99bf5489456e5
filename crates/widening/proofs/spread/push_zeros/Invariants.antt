use Rattle.std.proofs.Common.{◌≡◌, ◌+◌, ◌-◌, ◌++◌, length, replicate}
use Rattle.widening.proofs.spread.push_zeros.Given as goal

abbrev pub invariant-loop : goal.invariant-loop
invariant-loop l = record {
  written : l.wide.items ++ replicate (l.count - l.counter) 0 ≡ l.initial.wide.items ++ replicate l.count 0;
  counts : length l.wide.items ≡ length l.initial.wide.items + l.counter;
}
