-- A change that has just begun.
use Rattle.std.specs.Prelude.{◌≡◌, ◌≤◌, ℕ, false}
use Rattle.tree_limits.specs.declared.limits.Limits.{Limits}
use Rattle.traces.specs.discipline.Knowledge.{Knowledge}
use Rattle.traces.specs.discipline.Recalled.{Recalled, WasHead}
use Rattle.structure_changes.specs.Plans.{head_of, slot_of}
use Rattle.structure_changes.specs.declared.plan.Plan.{Plan}
use Rattle.change_machine.specs.Bounded.{IsApart, Recalls, few_steps, steps_left}
use Rattle.change_machine.specs.Changes.{Change, IsMade, IsSoundChange, KeepsSpare, MayChange, Shows, has_decided}
use Rattle.change_machine.specs.Spares.{Rest, Spares}

-- It is of the plan, and shows what its actor knows if that may link what is planned. It has few steps before it, and hasn't decided.
pub record HasBegun (of : Limits) (planned : Plan) (has : Spares) (change : Change) : Type 0 where
  pub limits : change.limits ≡ of
  pub plan : change.plan ≡ planned
  pub shows : (actor : ℕ) (k : Knowledge) → MayChange actor k planned → KeepsSpare planned has.pid → Rest k.own has → Shows actor change has k
  pub sound : IsSoundChange change has
  pub made : IsMade change has
  pub recalls : (r : Recalled) → WasHead r (slot_of planned) (head_of planned) → IsApart planned has.pid → Recalls change has r
  pub few : (after : ℕ) → steps_left after change has ≤ few_steps of
  pub first : has_decided change.state ≡ false
