use Rattle.std.proofs.Common.{◌≡◌, take}
use Rattle.bw_model.proofs.pairs.Pairs.copied.Given as goal

abbrev pub invariant-loop-key : goal.invariant-loop-key
invariant-loop-key l = l.pairs ≡ take l.key-index l.key-items
