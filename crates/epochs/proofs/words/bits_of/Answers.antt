use Rattle.std.proofs.Common.{◌∙◌, sym}
use Rattle.epochs.proofs.Handing.{bits_more, bits_same}
use Rattle.epochs.proofs.words.bits_of.Goals.{then-goes_with, else-goes_with}
use Rattle.epochs.proofs.words.bits_of.Goals as goal

pub loop-entry-preserved : goal.loop-entry-preserved
loop-entry-preserved c = elim c.if-goes_with.branch [
  | then-goes_with w ↦ rw w.bits-is
      (bits_more c.args.entries.now c.loop-entry.entry-index _ c.args.word c.loop-entry.bits c.loop-entry-test.true (sym c.goes_with.ensures ∙ w.if-goes_with.true) c.loop-entry.invariant)
  | else-goes_with w ↦ rw w.bits-is
      (bits_same c.args.entries.now c.loop-entry.entry-index _ c.args.word c.loop-entry.bits c.loop-entry-test.true (sym c.goes_with.ensures ∙ w.if-goes_with.false) c.loop-entry.invariant)
]
