use Rattle.sweep.proofs.Words.{arith}
use Rattle.sweep.proofs.sweep.compare.Goals as goal

pub returns : goal.returns
returns g c = record {
  reads = λ more. absurd (omega (arith, more, c.if-from-limits.false, c.from.ensures, c.count.ensures));
  frees = λ all. rw (c.may_free.ensures, c.least.ensures) at c.free.ensures;
}
