use Rattle.std.proofs.lemmas.Result.{IfOk-weaker}
use Rattle.seats.proofs.Fresh.{fresh_own}
use Rattle.tree_tests.proofs.trees.opened_at.Goals as goal

pub returns : goal.returns
returns c = record { own = IfOk-weaker c.open_at.result _ _ (λ opened. fresh_own opened.0 opened.1.items) c.open_at.ensures.seats }
