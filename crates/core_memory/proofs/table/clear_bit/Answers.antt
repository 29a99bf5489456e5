use Rattle.std.proofs.Common.{◌≡◌, ◌<◌, ◌/◌, length, refl, arith}
use Rattle.std.specs.Prelude.{slice_index}
use Rattle.core_memory.proofs.Tables.{read_is, taken}
use Rattle.core_memory.proofs.table.clear_bit.Goals as goal

pub returns-clause-taken : goal.returns-clause-taken
returns-clause-taken g c =
    let within : c.args.number / 64 < length c.args.words.now.items = omega (arith, c.requires) in
    let read : c.index_mut.result.now ≡ slice_index c.args.words.now.items (c.args.number / 64) = read_is _ _ _ within c.index_mut.ensures.value in
    rw read (taken c.args.words.now.items (c.args.number / 64) c.args.number refl c.requires)
