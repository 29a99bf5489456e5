use Rattle.std.proofs.Common.{sym, ◌∙◌}
use Rattle.step_core.proofs.Reserving.{missing}
use Rattle.step_core.proofs.machine.Core.stepped.Goals as goal

pub goes_on-requires : goal.goes_on-requires
goes_on-requires g c = record { goes = sym c.refusal.ensures ∙ missing _ _ c.is_some.ensures c.if-is_some.false }

pub go_on-requires-clause-goes : goal.go_on-requires-clause-goes
go_on-requires-clause-goes g c = sym c.refusal.ensures ∙ missing _ _ c.is_some.ensures c.if-is_some.false
