use Rattle.std.proofs.lemmas.Result.{IfOk-weaker}
use Rattle.seats.proofs.Fresh.{fresh_idle, fresh_own}
use Rattle.seats.proofs.lists.opened.Goals as goal

pub returns-clause-own : goal.returns-clause-own
returns-clause-own g c = IfOk-weaker c.open.result _ _ (λ opened. fresh_own opened.0 opened.1.items) c.open.ensures.seats

pub returns-clause-idle : goal.returns-clause-idle
returns-clause-idle g c = IfOk-weaker c.open.result _ _ (λ opened. fresh_idle opened.0 opened.1.items) c.open.ensures.seats
