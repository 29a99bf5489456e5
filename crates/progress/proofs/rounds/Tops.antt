-- A page is of level 15 at most.
use Rattle.progress.proofs.Words.{◌≤◌, List, arith, Record, level_in, IsFitted}
use Rattle.traces.proofs.FittedLaws.{ruled}
use Rattle.structure_changes.proofs.Places.{made}

pub top_of : (chain : List Record) → IsFitted chain → level_in chain ≤ 15
top_of chain fit = let m = made chain fit in let top = (ruled chain m.0 fit m.1).top in let is = m.1.level in omega (arith, top, is)
