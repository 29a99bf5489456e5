-- What runs say of progress until the first removal.
use Rattle.std.specs.Prelude.{List}
use Rattle.tree_limits.specs.declared.limits.Limits.{Limits}
use Rattle.traces.specs.declared.trace.Entry.{Entry}
use Rattle.traces.specs.trace.Run.{IsRun}
use Rattle.linearization.specs.Changes.{HasFewChanges}
use Rattle.linearization.specs.Direct.{IsDirect}
use Rattle.linearization.specs.Phases.{KeepsPhases}
use Rattle.linearization.specs.UntilRemoval.{MakesProgressUntilRemoval}

-- In a run that keeps phases, is direct and has few changes, nothing costs a reader steps, and only changes of the tree and numbers that others take
-- cost another operation any; an operation that runs alone ends, and all together take few steps.
abbrev pub RunsProgressUntilRemoval : Type 0
RunsProgressUntilRemoval = (limits : Limits) (entries : List Entry) → IsRun limits entries → KeepsPhases limits entries → IsDirect limits entries → HasFewChanges limits entries
    → MakesProgressUntilRemoval limits entries
