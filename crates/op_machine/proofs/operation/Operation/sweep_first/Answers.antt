use Rattle.std.proofs.Common.{sym, ◌∙◌}
use Rattle.op_machine.proofs.Takes.{none_if, takes_after, takes_swept, told_mid}
use Rattle.op_machine.proofs.operation.Operation.sweep_first.Goals as goal

pub returns-then-sweep_on : goal.returns-then-sweep_on
returns-then-sweep_on g c =
    let swept = c.sweep_on.ensures in
    rw (← c.hand.view_is) (takes_swept _ _ _ _ _ _ c.requires.first swept.same swept.shows (sym swept.on ∙ c.if-sweep_on.true) swept.few)

pub work_on-requires-clause-told : goal.work_on-requires-clause-told
work_on-requires-clause-told g c =
    let swept = c.sweep_on.ensures in
    told_mid _ _ _ _ _ _ c.requires.first swept.same swept.shows (none_if _ (sym swept.on ∙ c.if-sweep_on.false)) (rw (← c.hand.view_is) at c.requires.told)

pub returns : goal.returns
returns g c =
    let swept = c.sweep_on.ensures in
    rw (← c.hand.view_is) (takes_after _ _ _ _ _ _ c.requires.first swept.same swept.shows (none_if _ (sym swept.on ∙ c.if-sweep_on.false)) _ _ c.work_on.ensures.asks c.work_on.ensures.keeps)
