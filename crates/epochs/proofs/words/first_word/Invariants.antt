use Rattle.std.proofs.Common.{take}
use Rattle.epochs.specs.Words.{IsFirstPlace}
use Rattle.epochs.proofs.words.first_word.Given as goal

abbrev pub invariant-loop-entry : goal.invariant-loop-entry
invariant-loop-entry l = IsFirstPlace (take l.entry-index l.entries) l.first
