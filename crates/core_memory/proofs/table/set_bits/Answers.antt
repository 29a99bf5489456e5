use Rattle.std.proofs.Common.{◌≡◌}
use Rattle.std.specs.Prelude.{slice_index}
use Rattle.core_memory.proofs.Tables.{freed, read_is}
use Rattle.core_memory.proofs.table.set_bits.Goals as goal

pub returns-clause-freed : goal.returns-clause-freed
returns-clause-freed g c =
    let read : c.index_mut.result.now ≡ slice_index c.args.words.now.items c.args.word = read_is _ _ _ c.requires c.index_mut.ensures.value in
    rw read (freed c.args.words.now.items c.args.word c.args.bits c.requires)
