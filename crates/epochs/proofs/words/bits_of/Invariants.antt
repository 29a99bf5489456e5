use Rattle.std.proofs.Common.{take}
use Rattle.epochs.specs.Words.{AreBitsOf}
use Rattle.epochs.proofs.words.bits_of.Given as goal

abbrev pub invariant-loop-entry : goal.invariant-loop-entry
invariant-loop-entry l = AreBitsOf (take l.entry-index l.entries) l.word l.bits
