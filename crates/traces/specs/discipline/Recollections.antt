-- What an operation recalls after its first reads.
use Rattle.std.specs.Prelude.{false}
use Rattle.bw_model.specs.declared.step.Answer.TheVariants.{Number, Content, Whether}
use Rattle.bw_model.specs.declared.step.Step.TheVariants.{Slot, Row, RowBits, Exchange, TakeRow}
use Rattle.traces.specs.chain.Examples.{remove, split}
use Rattle.traces.specs.discipline.Recalled.{Recalled, blank, recall}

-- slot 0 was read as page 1, page 1's slot as row 5, and there a split to page 2
abbrev pub after_split : Recalled
after_split = recall (recall (recall blank (Slot 0) (Number 1)) (Slot 1) (Number 5)) (Row 5) (Content split)

-- then page 2's slot as row 6, and there a removal
abbrev pub after_removal : Recalled
after_removal = recall (recall after_split (Slot 2) (Number 6)) (Row 6) (Content (remove 4))

-- then an exchange of page 1's slot lost
abbrev pub after_loss : Recalled
after_loss = recall after_split (Exchange 1 5 7) (Whether false)

-- row 3 was read as free; then the take of row 2 missed
abbrev pub after_bits : Recalled
after_bits = recall blank (RowBits 0) (Number 8)

abbrev pub after_miss : Recalled
after_miss = recall after_bits (TakeRow 2) (Whether false)
