-- An operation at which a change has just begun.
use Rattle.std.specs.Prelude.{◌≤◌, ◌+◌, IsSome}
use Rattle.traces.specs.discipline.Knowledge.{Knowledge}
use Rattle.traces.specs.discipline.Recalled.{Recalled}
use Rattle.structure_changes.specs.declared.plan.Plan.{Plan}
use Rattle.change_machine.specs.Spares.{Spares}
use Rattle.op_parts.specs.declared.then.Then.{Then}
use Rattle.op_machine.specs.machine.Bounded.{few_changes, left_at}
use Rattle.op_machine.specs.machine.RoundSteps.{BeginsPlan}
use Rattle.op_machine.specs.machine.Shows.{MayBegin, ShowsState, wanted_at}
use Rattle.op_machine.specs.machine.States.{State}
use Rattle.op_machine.specs.machine.Tasks.{Task}

-- The change is of the plan, and shows what its actor knows if that may begin it. It has few steps before it, and asks for one.
pub record HasBegunPlan (task : Task) (spares : Spares) (plan : Plan) (then : Then) (new : State) : Type 0 where
  pub stands : (k : Knowledge) (r : Recalled) → MayBegin task spares k r plan then → ShowsState task spares k r new
  pub few : (r : Recalled) → left_at task.limits r spares new ≤ few_changes task.limits + 1
  pub asks : IsSome (wanted_at spares new)
  pub begins : BeginsPlan plan new
