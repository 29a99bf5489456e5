use Rattle.std.proofs.lemmas.Result.{IfOk-weaker}
use Rattle.seats.proofs.Fresh.{loaded_idle, loaded_own}
use Rattle.seats.proofs.lists.opened_from.Goals as goal

pub returns-clause-own : goal.returns-clause-own
returns-clause-own g c = IfOk-weaker c.open_from.result _ _ (λ opened. loaded_own opened.0 opened.1.items c.args.pairs.now) c.open_from.ensures.loaded

pub returns-clause-idle : goal.returns-clause-idle
returns-clause-idle g c = IfOk-weaker c.open_from.result _ _ (λ opened. loaded_idle opened.0 opened.1.items c.args.pairs.now) c.open_from.ensures.loaded
