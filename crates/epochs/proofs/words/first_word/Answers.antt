use Rattle.std.proofs.Common.{◌∙◌, sym}
use Rattle.std.proofs.lemmas.List.{take_all}
use Rattle.epochs.proofs.Handing.{first_more, first_same}
use Rattle.epochs.proofs.words.first_word.Goals.{then-is_passed, else-is_passed}
use Rattle.epochs.proofs.words.first_word.Goals as goal

pub loop-entry-preserved : goal.loop-entry-preserved
loop-entry-preserved c = elim c.if-is_passed.branch [
  | then-is_passed w ↦ rw (w.first-is, w.earlier.ensures)
      (first_more c.args.entries.now c.loop-entry.entry-index _ c.loop-entry.first c.loop-entry-test.true (sym c.is_passed.ensures ∙ w.if-is_passed.true) c.loop-entry.invariant)
  | else-is_passed w ↦ rw w.first-is
      (first_same c.args.entries.now c.loop-entry.entry-index _ c.loop-entry.first c.loop-entry-test.true (sym c.is_passed.ensures ∙ w.if-is_passed.false) c.loop-entry.invariant)
]

pub returns : goal.returns
returns c = rw (take_all c.loop-entry.entry-index c.args.entries.now c.loop-entry-test.false) at c.loop-entry.invariant
