use Rattle.compact_rows.proofs.Words.{arith}
use Rattle.record_slots.proofs.ShortTexts.{short_text}
use Rattle.compact_rows.proofs.short.are_short.Goals as goal

pub returns : goal.returns
returns c = short_text c.args.bytes.now c.requires (λ i. omega (arith, c.type_inv.bytes i))
