-- What the sweep with which an operation begins leaves as it was, and what it keeps.
use Rattle.op_machine.proofs.Words.{◌≡◌, Option, Some, None, refl, true, IfSome, IsSome, MatchOption, is_writer, Answer, Record, Knowledge}
use Rattle.op_machine.proofs.Words.{Recalled, Spares, ShowsState, learn_last, recall_last}
use Rattle.epochs.specs.Limbo.{Limbo}
use Rattle.op_machine.specs.machine.Ops.{HoldsLimbo, Shows, asked_by}
use Rattle.op_machine.specs.machine.Sweeping.{with_limbo}
use Rattle.op_machine.specs.machine.Tasks.{Task, Waits}
use Rattle.op_machine.specs.machine.States.{State, Begun}
use Rattle.sweep.specs.Sweeps.{IsSoundSweep, IsKeptOutside, Sweep, Shows as ShowsSweep}

module _ (task : Task) (spares : Spares) where
  abbrev IsSweepOf : Limbo → Sweep → Type 0
  IsSweepOf limbo next = IsSoundSweep next limbo × (next.limits ≡ task.limits) × (next.actor ≡ task.actor) × (is_writer task.command ≡ true)

  holds : (limbo : Limbo) (k : Knowledge) (next : Option Sweep)
      → MatchOption next (IsKeptOutside task.limits task.actor limbo k) (λ sweep. ShowsSweep sweep limbo k) → IfSome next (IsSweepOf limbo)
      → HoldsLimbo task Begun limbo k next
  holds limbo k None rests of = rests.kept
  holds limbo k (Some sweep) shows of = record { first = refl; writer = of.3; limits = of.1; actor = of.2; sound = of.0; shows = shows }

  -- an operation begins with this sweep, or without one
  pub begins : (limbo : Limbo) (k : Knowledge) (r : Recalled) (state : State) (next : Option Sweep) → state ≡ Begun → ShowsState task spares k r state
      → MatchOption next (IsKeptOutside task.limits task.actor limbo k) (λ sweep. ShowsSweep sweep limbo k) → IfSome next (IsSweepOf limbo)
      → Shows (record { task = task; sweep = next; state = state }) (with_limbo spares limbo) k r
  begins limbo k r state next first stands shows of = record { stands = stands; limbo = rw first (holds limbo k next shows of) }

  pub begins_from : (had limbo : Limbo) (k : Knowledge) (r : Recalled) (state : State) (old next : Option Sweep) (told : Answer Record) → old ≡ None
      → state ≡ Begun → Shows (record { task = task; sweep = old; state = state }) (with_limbo spares had) k r
      → ((k : Knowledge) → IsKeptOutside task.limits task.actor had k → MatchOption next (IsKeptOutside task.limits task.actor limbo k) (λ sweep. ShowsSweep sweep limbo k))
      → IfSome next (λ sweep. IsSoundSweep sweep limbo) → IfSome next (λ sweep. (sweep.limits ≡ task.limits) × (sweep.actor ≡ task.actor))
      → (IsSome next → is_writer task.command ≡ true)
      → Shows (record { task = task; sweep = next; state = state }) (with_limbo spares limbo) (learn_last k (asked_by old None) told) (recall_last r (asked_by old None) told)
  begins_from had limbo k r state old next told none first shows starts sound same writer =
      let h = rw none at shows in
      let waits : Waits task spares k = rw first at h.stands in
      rw none (begins limbo k r state next first h.stands (starts k (record { outside = waits.rests.outside; kept = h.limbo })) (both next sound same writer))
    where
      both : (o : Option Sweep) → IfSome o (λ sweep. IsSoundSweep sweep limbo) → IfSome o (λ sweep. (sweep.limits ≡ task.limits) × (sweep.actor ≡ task.actor))
          → (IsSome o → is_writer task.command ≡ true) → IfSome o (IsSweepOf limbo)
      both None sound same writer = tt
      both (Some sweep) sound same writer = (sound, same.0, same.1, writer refl)
