use Rattle.std.proofs.Common.{refl, sym}
use Rattle.std.proofs.lemmas.Option.{none-some}
use Rattle.bw_shell.proofs.whole.weave_core.Goals as goal

pub returns-in_default-clause-none : goal.returns-in_default-clause-none
returns-in_default-clause-none g c = λ _. (refl, refl)

pub run-refused-requires-clause-empty : goal.run-refused-requires-clause-empty
run-refused-requires-clause-empty g c = c.new.ensures

pub returns-clause-ran : goal.returns-clause-ran
returns-clause-ran g c = rw (c.in-Ok.ensures.entries, c.in-Ok.ensures.limits) at c.run-refused.ensures

pub returns-clause-none : goal.returns-clause-none
returns-clause-none g c = λ some. absurd (none-some _ (sym some))
