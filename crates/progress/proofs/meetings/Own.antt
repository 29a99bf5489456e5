-- A writer is paid for after its own step.
use Rattle.progress.proofs.Words.{◌≡◌, ◌<◌, ◌≤◌, ◌++◌, ◌⊎◌, ℕ, List, [], ◌∷◌, length, true, false, cond, Option, None, Some, refl, sym, ap, ◌∙◌, inl, inr, arith, ◌==◌, IsSome, slice_get_below}
use Rattle.progress.proofs.Words.{cases_lt, same_Some, Limits, is_writer, Reply, Answer, StepOf, Record, Entry, Step, Knowledge, knows, Recalled, recalls, pushed_length, Hand, State, Begun}
use Rattle.progress.proofs.Words.{Epoch, Enter, Read, Write, Change, Leave, Task, is_leaving, IsDirect, IsState, command_at, wanted_by, IsActorWith, UnderWay, and-false, May, Fits, WriteRound}
use Rattle.progress.proofs.Words.{ShowsState, PaysForWriter, PaysMeets, PaysWriter, InRound, IsLawfulWriting, StepsOn, WriterMoment, WriterState, meets, meets_at}
use Rattle.bw_model.specs.declared.step.Step.TheVariants as step_of
use Rattle.traces.specs.discipline.Recalled.{recall}
use Rattle.round_model.specs.WriteRounds.{wanted_step}
use Rattle.change_machine.specs.Changes.{Change as ChangeOf, wanted_at as wanted_of_change}
use Rattle.op_machine.specs.machine.Actors.{command_left, knows_then}
use Rattle.op_machine.specs.machine.Ops.{HoldsLimbo, Op, asked_by, wanted_of}
use Rattle.op_machine.specs.machine.RoundSteps.{StepsInRound}
use Rattle.op_machine.specs.machine.Shows.{wanted_at}
use Rattle.op_machine.specs.machine.UnderWay.{StepsAt}
use Rattle.sweep.specs.Sweeps.{Sweep, wanted_step as wanted_of_sweep, wanted_at as wanted_in_sweep}
use Rattle.sweep.specs.declared.sweep.State.{State as SweepState}
use Rattle.sweep.specs.declared.sweep.State.TheVariants as sweep_state
use Rattle.epochs.specs.declared.item.Reuse.TheVariants.{Rows, Pids}
use Rattle.tree_law.specs.TraceLaws.{AnswersFit}
use Rattle.progress.specs.WriterStates.{MeetsAt, WriterStepsArePaid}
use Rattle.progress.proofs.ReaderRounds.{last_cases, next_of}
use Rattle.progress.proofs.ReaderSteps.{asked_last, going, no_sweep}
use Rattle.progress.proofs.meetings.Pays.{goes_on, pays_end, pays_kept, pays_less, writer_fresh}
use Rattle.progress.proofs.meetings.Turns.{IsStanding, Turns, change_at, turns_change, turns_round}

abbrev pub moment_of : Entry → WriterState → WriterMoment
moment_of entry state = record { entry = entry; state = state }

-- a sweep meets nothing
calm_sweep : (sweep : Sweep) (answer : Answer Record) → meets (wanted_of_sweep sweep) answer ≡ false
calm_sweep sweep answer = by_state sweep.state
  where
    by_state : (state : SweepState) → meets (wanted_in_sweep sweep.actor state) answer ≡ false
    by_state sweep_state.Epoch = refl
    by_state (sweep_state.Retire epoch) = refl
    by_state (sweep_state.Announce announces) = refl
    by_state (sweep_state.Reuse (Rows word bits)) = refl
    by_state (sweep_state.Reuse (Pids word bits)) = refl

-- at its begin an operation sweeps, or wants nothing
pub calm_begin : (op : Op) (hand : Hand) (k : Knowledge) (asked : StepOf Record) (answer : Answer Record) → op.state ≡ Begun → HoldsLimbo op.task op.state hand.limbo k op.sweep
    → wanted_of op hand ≡ Some asked → meets asked answer ≡ false
calm_begin op hand k asked answer first holds is = (elim (op.sweep) as (λ o. asked_by o (wanted_at hand.spares op.state) ≡ Some asked → meets asked answer ≡ false) [
  | None ↦ λ e. let none : None ≡ Some asked = ap (wanted_at hand.spares) (sym first) ∙ e in cc
  | Some sweep ↦ λ e. rw (← same_Some (wanted_of_sweep sweep) asked e) (calm_sweep sweep answer)
]) is

is_begun : (s : State) → (s ≡ Begun) ⊎ (s ≡ Begun → ⊥)
is_begun Begun = inl refl
is_begun state = inr (λ e. cc e)

pub meets_none : (actor other : ℕ) (step : StepOf Record) (answer : Answer Record) (reply : Option Reply) → meets step answer ≡ false → meets_at actor (Step other step answer reply) ≡ false
meets_none actor other step answer reply calm = rw calm (and-false (other == actor))

-- what a state pays for yet
pub paid_some : (limits : Limits) (entries : List Entry) (actor m : ℕ) (state : State) → MeetsAt limits entries actor m state → PaysMeets limits entries actor m 0
paid_some limits entries actor m (Read round) pays = absurd pays
paid_some limits entries actor m (Write round) pays = pays_less limits entries actor m pays.left 0 (omega arith) pays.pays
paid_some limits entries actor m (Change now after) pays = pays_less limits entries actor m pays.left 0 (omega arith) pays.pays
paid_some limits entries actor m (Leave reply lacks) pays = pays
paid_some limits entries actor m state pays = pays_less limits entries actor m 21 0 (omega arith) pays

-- in the memory of a state, wherever a writer stands
pub at_fresh : (limits : Limits) (entries : List Entry) (actor m : ℕ) (task : Task) (hand : Hand) (k : Knowledge) (r : Recalled) → IsState limits entries
    → (t : State) → ShowsState task hand.spares k r t
    → is_writer task.command ≡ true → PaysMeets limits entries actor m 21 → MeetsAt limits entries actor m t
at_fresh limits entries actor m task hand k r state (Read round) shows writer pays = absurd (let both : true ≡ false = sym writer ∙ shows.reader in cc)
at_fresh limits entries actor m task hand k r state (Write round) shows writer pays = writer_fresh limits entries actor (InRound round) m state pays
at_fresh limits entries actor m task hand k r state (Change now after) shows writer pays = writer_fresh limits entries actor (change_at now) m state pays
at_fresh limits entries actor m task hand k r state (Leave reply lacks) shows writer pays = pays_less limits entries actor m 21 0 (omega arith) pays
at_fresh limits entries actor m task hand k r state other shows writer pays = pays

-- where a writer stands that is paid for
pub at_state : (limits : Limits) (entries : List Entry) (actor m : ℕ) (writer : WriterState) (t : State) → (is_leaving t ≡ true) ⊎ IsStanding t writer → PaysForWriter limits entries actor writer m
    → MeetsAt limits entries actor m t
at_state limits entries actor m writer (Write round) goes pays = elim goes [
  | inl e ↦ absurd (cc e)
  | inr stands ↦ rw (← stands) pays
]
at_state limits entries actor m writer (Change now after) goes pays = elim goes [
  | inl e ↦ absurd (cc e)
  | inr stands ↦ rw (← stands) pays
]
at_state limits entries actor m writer (Leave reply lacks) goes pays = pays_less limits entries actor m pays.left 0 (omega arith) pays.pays
at_state limits entries actor m writer state goes pays = elim goes [ inl e ↦ absurd (cc e) | inr stands ↦ absurd stands ]

module _ (limits : Limits) (entries : List Entry) (actor : ℕ) (step : StepOf Record) (answer : Answer Record) (fit : AnswersFit) (state : IsState limits entries)
    (later : IsState limits (entries ++ Step actor step answer None ∷ [])) (direct : IsDirect limits (entries ++ Step actor step answer None ∷ [])) (start : ℕ)
    (task : Task) (hand : Hand) (own_actor : task.actor ≡ actor) (may : May task.actor (knows entries actor) step) (begun : start < length entries) where
  abbrev entry : Entry
  entry = Step actor step answer None

  abbrev longer : List Entry
  longer = entries ++ entry ∷ []

  fits : Fits limits (knows entries actor) step answer
  fits = fit limits entries actor step answer state (rw own_actor at may) (next_of limits entries entry later).2

  -- what was paid for from an earlier entry on, and from the end on
  from_each : meets step answer ≡ false → (left m : ℕ) → m ≤ length longer → left ≤ 21 → (m ≤ length entries → PaysMeets limits entries actor m left) → PaysMeets limits longer actor m left
  from_each calm left m within few pays = elim (cases_lt (length entries) m) [
    | inl past ↦ let long = pushed_length entries entry in pays_end limits longer actor m left (omega (arith, past, long)) few
    | inr le ↦
        let none : cond {A = ℕ} (meets_at actor entry) 1 0 ≡ 0 = rw (meets_none actor actor step answer None calm) in
        pays_kept limits entries entry actor m left left le (omega (arith, none)) (pays le)
  ]

  -- a writer that stands there goes on
  turned : (writer : WriterState) (t : State) → ((next : WriterState) → StepsOn (knows entries actor) writer step answer next
      → IsLawfulWriting limits actor entries writer (moment_of entry next)) → Turns (knows entries actor) writer step answer t
      → ((m : ℕ) → start < m → m ≤ length entries → PaysForWriter limits entries actor writer m) → (m : ℕ) → start < m → m ≤ length longer → MeetsAt limits longer actor m t
  turned writer t lawful turns pays m after within = elim (cases_lt (length entries) m) [
    | inl past ↦
        let long = pushed_length entries entry in
        at_state limits longer actor m turns.0 t turns.2 (writer_fresh limits longer actor turns.0 m later (pays_end limits longer actor m 21 (omega (arith, past, long)) (omega arith)))
    | inr le ↦ at_state limits longer actor m turns.0 t turns.2 (goes_on limits entries actor writer (moment_of entry turns.0) m (lawful turns.0 turns.1) le (pays m after le))
  ]

  lawful_round : (round : WriteRound) (r : Recalled) → ShowsState task hand.spares (knows entries actor) r (Write round) → (next : WriterState)
      → StepsOn (knows entries actor) (InRound round) step answer next → IsLawfulWriting limits actor entries (InRound round) (moment_of entry next)
  lawful_round round r shows next steps = record {
    next = next_of limits entries entry later;
    later = later;
    direct = direct;
    r = r;
    shows = shows.shows;
    goes = inl (record { step = step; answer = answer; entry_is = refl; steps = steps });
  }

  lawful_change : (now : ChangeOf) (r : Recalled) (next : WriterState) → StepsOn (knows entries actor) (change_at now) step answer next
      → IsLawfulWriting limits actor entries (change_at now) (moment_of entry next)
  lawful_change now r next steps = record {
    next = next_of limits entries entry later;
    later = later;
    direct = direct;
    r = r;
    shows = tt;
    goes = inl (record { step = step; answer = answer; entry_is = refl; steps = steps });
  }

  pub from_state : (s t : State) (k : Knowledge) (r new_r : Recalled) (new_task : Task) (new_hand : Hand)
      → ShowsState task hand.spares (knows entries actor) r s → (wanted_at hand.spares s ≡ Some step) ⊎ (s ≡ Begun)
      → meets step answer ≡ false ⊎ (s ≡ Begun → ⊥)
      → (step ≡ step_of.Leave → ⊥) → ShowsState new_task new_hand.spares k new_r t → is_writer new_task.command ≡ true → StepsInRound task s answer t
      → ((m : ℕ) → start < m → m ≤ length entries → MeetsAt limits entries actor m s) → (m : ℕ) → start < m → m ≤ length longer → MeetsAt limits longer actor m t
  from_state Begun t k r new_r new_task new_hand shows wants calm stays new_shows writer steps pays m after within = elim calm [
    | inl quiet ↦ at_fresh limits longer actor m new_task new_hand k new_r later t new_shows writer (from_each quiet 21 m within (omega arith) (pays m after))
    | inr other ↦ absurd (other refl)
  ]
  from_state Epoch t k r new_r new_task new_hand shows wants calm stays new_shows writer steps pays m after within = elim wants [
    | inl is ↦
        let quiet : meets step answer ≡ false = rw (← same_Some step_of.Epoch step is) refl in
        at_fresh limits longer actor m new_task new_hand k new_r later t new_shows writer (from_each quiet 21 m within (omega arith) (pays m after))
    | inr e ↦ absurd (cc e)
  ]
  from_state (Enter epoch) t k r new_r new_task new_hand shows wants calm stays new_shows writer steps pays m after within = elim wants [
    | inl is ↦
        let quiet : meets step answer ≡ false = rw (← same_Some (step_of.Enter epoch) step is) refl in
        at_fresh limits longer actor m new_task new_hand k new_r later t new_shows writer (from_each quiet 21 m within (omega arith) (pays m after))
    | inr e ↦ absurd (cc e)
  ]
  from_state (Read round) t k r new_r new_task new_hand shows wants calm stays new_shows writer steps pays m after within = absurd (pays (length entries) begun (omega arith))
  from_state (Write round) t k r new_r new_task new_hand shows wants calm stays new_shows writer steps pays m after within = elim wants [
    | inl is ↦
        let same : wanted_step round ≡ step = same_Some (wanted_step round) step is in
        turned (InRound round) t (lawful_round round r shows)
        (rw (← same) (turns_round task round (knows entries actor) answer t steps)) pays m after within
    | inr e ↦ absurd (cc e)
  ]
  from_state (Change now next) t k r new_r new_task new_hand shows wants calm stays new_shows writer steps pays m after within = elim wants [
    | inl is ↦
        let asked : wanted_of_change now.limits now.plan hand.spares now.state ≡ step = same_Some (wanted_of_change now.limits now.plan hand.spares now.state) step is in
        turned (change_at now) t (lawful_change now r)
        (rw (← asked)
        (turns_change limits task hand.spares (knows entries actor) r now next shows answer (rw asked fits)
        (rw asked may) t steps)) pays m after within
    | inr e ↦ absurd (cc e)
  ]
  from_state (Leave reply lacks) t k r new_r new_task new_hand shows wants calm stays new_shows writer steps pays m after within = elim wants [
    | inl is ↦ absurd (stays (sym (same_Some step_of.Leave step is)))
    | inr e ↦ absurd (cc e)
  ]

pub writer_steps_paid : AnswersFit → WriterStepsArePaid
writer_steps_paid fit limits entries actor step answer reply old new state shown pays wants later direct acts command =
    by_running old.running new.running reply shown pays wants later direct acts.steps acts.allowed.ends acts.shows command
  where
    by_running : (o n : Option UnderWay) (given : Option Reply) → IsActorWith limits actor (knows entries actor) (recalls entries actor) old.hand o
        → PaysWriter limits entries actor o → wanted_by o ≡ Some step
        → IsState limits (entries ++ Step actor step answer given ∷ []) → IsDirect limits (entries ++ Step actor step answer given ∷ []) → StepsAt o answer n
        → (step ≡ step_of.Leave → IsSome given) → IsActorWith limits actor (knows_then (knows entries actor) step answer reply)
        (recall (recalls entries actor) step answer) new.hand n → command_at n ≡ command_left given (command_at o)
        → PaysWriter limits (entries ++ Step actor step answer given ∷ []) actor n
    by_running None n given shows pays wants later direct steps ends new_shows command = absurd (cc wants)
    by_running (Some running) None given shows pays wants later direct steps ends new_shows command = tt
    by_running (Some running) (Some now) (Some given) shows pays wants later direct steps ends new_shows command = absurd (cc command)
    by_running (Some running) (Some now) None shows pays wants later direct steps ends new_shows command = λ start m asked latest writer after within.
        elim (last_cases entries (Step actor step answer None) start actor asked latest) [
          | inr begins ↦ absurd (let e = begins.1 in cc e)
          | inl before ↦
              let goes = shows.goes in
              let same : running.op.task.command ≡ asked = asked_last limits entries state start actor asked running.op.task.command before
              (going running.op.task old.hand (knows entries actor) (recalls entries actor) running.op.state goes.shows.stands) in
              let same_new : now.op.task.command ≡ running.op.task.command = same_Some now.op.task.command running.op.task.command command in
              let wanted : wanted_of running.op old.hand ≡ Some step = goes.wanted ∙ wants in
              let step_is : (wanted_at old.hand.spares running.op.state ≡ Some step) ⊎ (running.op.state ≡ Begun) = elim (is_begun running.op.state) [
                | inl first ↦ inr first
                | inr other ↦ inl (no_sweep running.op old.hand (knows entries actor) step other goes.shows.limbo wanted)
              ] in
              let calm : (meets step answer ≡ false) ⊎ (running.op.state ≡ Begun → ⊥) = elim (is_begun running.op.state) [
                | inl first ↦ inl (calm_begin running.op old.hand (knows entries actor) step answer first goes.shows.limbo wanted)
                | inr other ↦ inr other
              ] in
              let may : May running.op.task.actor (knows entries actor) step = rw (← same_Some running.wanted step wants) goes.may.may in
              from_state limits entries actor step answer fit state later direct start running.op.task old.hand shows.own_actor may (slice_get_below entries start _ before.begun)
              running.op.state now.op.state (knows_then (knows entries actor) step answer reply) (recalls entries actor)
              (recall (recalls entries actor) step answer) now.op.task new.hand goes.shows.stands step_is calm
              (λ leaves. let none : IsSome {T = Reply} None = ends leaves in cc) new_shows.goes.shows.stands (ap is_writer (same_new ∙ same) ∙ writer) steps
              (λ k low high. pays start k asked before writer low high) m after within
        ]
