use Rattle.core_memory.proofs.Tables.{opened}
use Rattle.core_memory.proofs.table.free_bits.Goals as goal

pub returns-clause-free : goal.returns-clause-free
returns-clause-free g c = opened c.args.count _ (c.in_ok-words.ensures.items_if_clones_equal (λ y e. e)) c.requires.whole c.requires.some
