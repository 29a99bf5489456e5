use Rattle.std.proofs.Common.{◌/◌, refl}
use Rattle.core_memory.proofs.Tables.{tested_in}
use Rattle.core_memory.proofs.table.is_set.Goals as goal

pub returns : goal.returns
returns c = tested_in c.args.words.now (c.args.number / 64) c.args.number refl
