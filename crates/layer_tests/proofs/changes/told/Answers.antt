use Rattle.layer_tests.proofs.changes.told.Goals as goal

pub returns-in-PidBits : goal.returns-in-PidBits
returns-in-PidBits c = record { fits = rw (c.in-PidBits.is) (c.word.ensures) }

pub returns-in-RowBits : goal.returns-in-RowBits
returns-in-RowBits c = record { fits = rw (c.in-RowBits.is) (c.row_bits.ensures) }
