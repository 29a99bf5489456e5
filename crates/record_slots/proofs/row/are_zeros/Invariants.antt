use Rattle.std.proofs.Common.{◌≡◌, ◌==◌, drop}
use Rattle.std.specs.Prelude.{◌&&◌}
use Rattle.record_slots.specs.Parts.{are_zeros}
use Rattle.record_slots.proofs.row.are_zeros.Given as goal

abbrev pub invariant-loop-word : goal.invariant-loop-word
invariant-loop-word l = (l.all == 0) && are_zeros (drop l.word-index l.words) ≡ are_zeros l.words
