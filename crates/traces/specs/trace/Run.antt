-- The runs of the shared memory.
use Rattle.std.specs.Prelude.{◌≡◌, ◌≢◌, ◌<◌, ℕ, List, false, None, Some, IsSome, slice_get, take, map}
use Rattle.tree_limits.specs.declared.limits.Limits.{Limits}
use Rattle.bw_model.specs.declared.step.Step.{Step as StepOf}
use Rattle.bw_model.specs.declared.step.Step.TheVariants.{Place}
use Rattle.deltas.specs.declared.record.Record.{Record}
use Rattle.traces.specs.declared.trace.Entry.{Entry}
use Rattle.traces.specs.declared.trace.Entry.TheVariants.{Begin, Step}
use Rattle.traces.specs.declared.trace.Turn.{Turn}
use Rattle.traces.specs.chain.Chains.{IsOnChain}
use Rattle.traces.specs.trace.Steps.{IsAnswer}
use Rattle.traces.specs.trace.Trace.{memory_of, command_of, turn_of}
use Rattle.traces.specs.discipline.Learnt.{HasLearnt}

-- A row is placed only while it is not free, on no chain, and learnt by no other actor.
pub record MayPlace (limits : Limits) (entries : List Entry) (actor row : ℕ) : Type 0 where
  pub taken : (memory_of limits entries).free_rows row ≡ false
  pub unlinked : ¬ IsOnChain (memory_of limits entries) row
  pub unlearnt : (other : ℕ) → other ≢ actor → ¬ HasLearnt entries other row

abbrev pub MayTake : Limits → List Entry → ℕ → StepOf Record → Type 0
MayTake limits entries actor (Place row content) = MayPlace limits entries actor row
MayTake limits entries actor _ = Unit {0}

-- The entry may stand after these: an operation begins where its actor has none, and takes a step with the memory's answer.
abbrev pub IsNext : Limits → List Entry → Entry → Type 0
IsNext limits entries (Begin actor command) = (actor < limits.actors) × (command_of entries actor ≡ None)
IsNext limits entries (Step actor step answer reply) = IsSome (command_of entries actor) × MayTake limits entries actor step × IsAnswer (memory_of limits entries) step answer

-- Each entry may stand after those before it.
pub record IsRun (limits : Limits) (entries : List Entry) : Type 0 where
  pub each : (n : ℕ) (entry : Entry) → slice_get entries n ≡ Some entry → IsNext limits (take n entries) entry

-- The entries are a run of the turns, one for each.
pub record IsRunOf (limits : Limits) (turns : List Turn) (entries : List Entry) : Type 0 where
  pub in_turn : map turn_of entries ≡ turns
  pub run : IsRun limits entries
