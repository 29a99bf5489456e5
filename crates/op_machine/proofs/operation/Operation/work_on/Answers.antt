use Rattle.std.proofs.Common.{sym, ◌∙◌}
use Rattle.op_machine.proofs.Keeping.{work_keeps}
use Rattle.op_machine.proofs.operation.Operation.work_on.Goals as goal

pub returns-clause-keeps : goal.returns-clause-keeps
returns-clause-keeps g c k r h f kept = work_keeps _ _ k r _ _ kept c.limbos_are_kept.ensures.read _ h (rw (← c.self.view_is) (sym c.is_changing.ensures ∙ c.if-is_changing.false)) f
