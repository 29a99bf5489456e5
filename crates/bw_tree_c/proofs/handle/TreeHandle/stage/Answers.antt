use Rattle.std.proofs.Common.{subst, sym}
use Rattle.bw_tree_c.specs.Closing.{IsInUse, IsVacant}
use Rattle.bw_tree_c.proofs.handle.TreeHandle.stage.Goals as goal

pub returns-clause-vacant : goal.returns-clause-vacant
returns-clause-vacant c = λ ok. subst (λ k. IsVacant k c.args.since c.stage.result.receipt) (sym c.in-Some.ensures.kept) (c.stage.ensures.vacant ok)

pub returns-clause-open : goal.returns-clause-open
returns-clause-open c = λ told. subst (λ k. IsInUse k c.args.since c.stage.result.receipt) (sym c.in-Some.ensures.kept) (c.stage.ensures.open told)
