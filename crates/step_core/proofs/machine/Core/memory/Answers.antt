use Rattle.std.proofs.Common.{subst}
use Rattle.traces.specs.trace.Trace.{memory_of}
use Rattle.tree_law.specs.LevelPages.{HasAllLevels}
use Rattle.step_core.proofs.machine.Core.memory.Goals as goal

pub returns-clause-levels : goal.returns-clause-levels
returns-clause-levels g c =
    subst (λ v. HasAllLevels v.limits (memory_of v.limits v.entries)) c.self.view_is (c.levels_stand.ensures _ _ c.self.invariant.state)
