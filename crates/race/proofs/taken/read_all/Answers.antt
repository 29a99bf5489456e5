use Rattle.std.proofs.KnownBytes.{Consumes-trans}
use Rattle.race.proofs.taken.read_all.Goals as goal

pub returns-then-is_err-clause-taken : goal.returns-then-is_err-clause-taken
returns-then-is_err-clause-taken g c =
    (_, Consumes-trans _ _ _ _ _ c.reads.invariant.taken c.in-Ok.ensures.bytes.0, tt)
