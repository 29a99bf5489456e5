use Rattle.std.proofs.Common.{arith}
use Rattle.record_slots.proofs.TextLaws.{shifted}
use Rattle.record_slots.proofs.texts.ends_after.Goals as goal

pub returns-else-count-ge8 : goal.returns-else-count-ge8
returns-else-count-ge8 c = shifted c.args.count c.args.word (omega (arith, c.if-count-ge8.false))
