use Rattle.std.proofs.Common.{◌≡◌, ◌++◌, take}
use Rattle.layer_tests.proofs.built.copy_all.Given as goal

abbrev pub invariant-loop-record : goal.invariant-loop-record
invariant-loop-record g l = l.records.items ≡ l.fn.records.items ++ take l.record-index l.more
