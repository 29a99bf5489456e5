-- A reader is paid for after its own step.
use Rattle.progress.proofs.Words.{◌≡◌, ◌<◌, ◌≤◌, ◌+◌, ◌-◌, ◌*◌, ◌++◌, ◌⊎◌, ℕ, List, [], ◌∷◌, length, true, false, cond, Option, None, Some, refl, sym, ap, ◌∙◌, inl, inr, arith, IsSome}
use Rattle.progress.proofs.Words.{if◌then◌else◌, slice_get, cases_lt, same_Some, Limits, is_writer, Command, Reply, Answer, StepOf, Record, Entry, Begin, Step, Knowledge, knows, Recalled}
use Rattle.progress.proofs.Words.{recalls, memory_of, pushed_length, slice_get_below, first_read, Hand, State, Begun, Epoch, Enter, Read, Write, Change, Leave, Task, IsDirect, is_step_of}
use Rattle.progress.proofs.Words.{one_memory, IsLast, IsState, operation_from, IsLawfulMoment, changes_tree, ReadRound, wanted_step, IsActorWith, command_at, wanted_by, is_leaving, is_reading}
use Rattle.progress.proofs.Words.{StepsReading, ShowsState, UnderWay, PaysAt, PaysForRound, PaysFrom, PaysReader, reader_task}
use Rattle.bw_model.specs.declared.step.Step.TheVariants as step_of
use Rattle.op_machine.specs.machine.Actors.{command_left}
use Rattle.op_machine.specs.machine.Ops.{HoldsLimbo, Op, asked_by, wanted_of}
use Rattle.op_machine.specs.machine.Outcomes.{is_entering}
use Rattle.op_machine.specs.machine.RoundSteps.{StepsInRound}
use Rattle.op_machine.specs.machine.Shows.{wanted_at}
use Rattle.op_machine.specs.machine.UnderWay.{StepsAt}
use Rattle.tree_law.proofs.trace.Owned.{same_start}
use Rattle.progress.specs.ReaderStates.{StepsArePaid}
use Rattle.progress.proofs.ReaderPays.{pays_end, pays_kept}
use Rattle.progress.proofs.ReaderRounds.{after_reads, few_fresh, few_on, few_some, last_cases, moment_of, next_of, round_fresh, same_steps}
use Rattle.progress.proofs.Tallies.{one_at_most, itself}
use Rattle.progress.proofs.rounds.Among.{is_read, read_no_change}

-- the command that an operation shows
pub going : (task : Task) (hand : Hand) (k : Knowledge) (r : Recalled) (s : State) → ShowsState task hand.spares k r s → k.asked.command ≡ Some task.command
going task hand k r (Enter epoch) h = h.0.asked.going
going task hand k r (Read round) h = h.seeks.asked.going
going task hand k r (Write round) h = h.seeks.asked.going
going task hand k r (Leave reply lacks) h = h.0.going
going task hand k r state h = h.asked.going

-- it is the one that the actor's last operation was asked
pub asked_last : (limits : Limits) (entries : List Entry) → IsState limits entries → (start actor : ℕ) (command shown : Command)
    → IsLast entries (operation_from start actor command) → (knows entries actor).asked.command ≡ Some shown → shown ≡ command
asked_last limits entries state start actor command shown latest shows =
    let t = state.tells actor shown (sym (state.named.commands actor) ∙ shows) in
    let at : start ≡ t.start = same_start entries start t.start actor command shown latest.begun t.begins latest.unended t.unended in
    let e : Some (Begin actor command) ≡ Some (Begin actor shown) = sym latest.begun ∙ ap (slice_get entries) at ∙ t.begins in
    cc

-- who isn't at the begin sweeps nothing
pub no_sweep : (op : Op) (hand : Hand) (k : Knowledge) (asked : StepOf Record) → (op.state ≡ Begun → ⊥) → HoldsLimbo op.task op.state hand.limbo k op.sweep
    → wanted_of op hand ≡ Some asked → wanted_at hand.spares op.state ≡ Some asked
no_sweep op hand k asked other holds is = (elim (op.sweep) as
    (λ o. HoldsLimbo op.task op.state hand.limbo k o → asked_by o (wanted_at hand.spares op.state) ≡ Some asked → wanted_at hand.spares op.state ≡ Some asked) [
      | None ↦ λ h e. e
      | Some sweep ↦ λ h e. absurd (other h.first)
    ]) holds is

-- at its begin a reader wants nothing
no_begin : (op : Op) (hand : Hand) (k : Knowledge) (asked : StepOf Record) → is_writer op.task.command ≡ false
    → HoldsLimbo op.task op.state hand.limbo k op.sweep → wanted_of op hand ≡ Some asked → op.state ≡ Begun → ⊥
no_begin op hand k asked reader holds is first = (elim (op.sweep) as (λ o. HoldsLimbo op.task op.state hand.limbo k o → asked_by o (wanted_at hand.spares op.state) ≡ Some asked → ⊥) [
  | None ↦ λ h e. let none : None ≡ Some asked = ap (wanted_at hand.spares) (sym first) ∙ e in cc
  | Some sweep ↦ λ h e. let both : true ≡ false = sym h.writer ∙ reader in cc
]) holds is

same_first : (limits : Limits) (actor : ℕ) (command : Command) (task : Task) → task.limits ≡ limits → task.command ≡ command → first_read task ≡ first_read (reader_task limits actor command)
same_first limits actor command task same_limits same_command = rw (same_limits, same_command) refl

odd : {X : Type 0} → false ≡ true → X
odd e = absurd (cc e)

module _ (limits : Limits) (entries : List Entry) (actor : ℕ) (step : StepOf Record) (answer : Answer Record) (state : IsState limits entries)
    (later : IsState limits (entries ++ Step actor step answer None ∷ [])) (direct : IsDirect limits (entries ++ Step actor step answer None ∷ [])) (start : ℕ)
    (command : Command) (old : Task) (hand : Hand)
    (same_limits : old.limits ≡ limits) (same_command : old.command ≡ command) (reader : is_writer command ≡ false) (begun : start < length entries) where
  abbrev entry : Entry
  entry = Step actor step answer None

  abbrev longer : List Entry
  longer = entries ++ entry ∷ []

  abbrev task : Task
  task = reader_task limits actor command

  one : cond {A = ℕ} (is_step_of actor entry) 1 0 ≤ 1
  one = one_at_most (is_step_of actor entry)

  own : cond {A = ℕ} (is_step_of actor entry) 1 0 ≡ 1
  own = rw (itself actor)

  -- what was paid for from an earlier entry on, and from the end on
  from_each : (left rest m : ℕ) → m ≤ length longer → rest < left → rest ≤ one_memory limits + 3 → (m ≤ length entries → PaysFrom limits entries actor m left) → PaysFrom limits longer actor m rest
  from_each left rest m within less few pays = elim (cases_lt (length entries) m) [
    | inl past ↦ let long = pushed_length entries entry in pays_end limits longer actor m rest (omega (arith, past, long)) few
    | inr le ↦ let most = one in pays_kept limits entries entry actor m left rest le (omega (arith, most, less)) (pays le)
  ]

  -- a round goes on
  round_on : (round next : ReadRound) (r : Recalled) → wanted_step round ≡ step → ShowsState old hand.spares (knows entries actor) r (Read round)
      → StepsReading old round answer (Read next) → (m : ℕ) → m ≤ length entries → PaysForRound limits entries task round m
      → PaysForRound limits longer task next m
  round_on round next r wants shows steps m within pays = record {
    left = pays.left - 1;
    few =
        few_on limits actor task entries round (moment_of entry next) 1 0 pays.left (pays.left - 1) lawful own none
        (let some = few_some limits actor task entries round pays.left pays.few in no_more pays.left (one_memory limits) some) pays.few;
    pays =
        let most = one in
        let some = few_some limits actor task entries round pays.left pays.few in
        pays_kept limits entries entry actor m (pays.left + 1) (pays.left - 1 + 1) within (omega (arith, most, some)) pays.pays;
  }
    where
      no_more : (left worth : ℕ) → 0 < left → left + 0 * worth ≤ left - 1 + 1
      no_more left worth some = omega (arith, some)

      lawful : IsLawfulMoment limits actor task entries round (moment_of entry next)
      lawful = record {
        next = next_of limits entries entry later;
        later = later;
        direct = direct;
        r = r;
        shows = shows.shows;
        goes =
            inl (record {
              answer = answer;
              entry_is = rw (← wants);
              steps = same_steps old task round answer
                  (Read next) (same_first limits actor command old same_limits same_command) steps;
            });
      }

      none : ◌≡◌ {A = ℕ} (if changes_tree (memory_of limits entries) entry then 1 else 0) 0
      none = rw (← wants) (rw (read_no_change (memory_of limits entries) actor (wanted_step round) answer (is_read round.state)))

  -- by what the round makes of the answer
  from_round : (round : ReadRound) (r : Recalled) (t : State) → wanted_step round ≡ step → ShowsState old hand.spares (knows entries actor) r (Read round)
      → StepsReading old round answer t → (is_reading t ≡ true) ⊎ (is_leaving t ≡ true)
      → ((m : ℕ) → start < m → m ≤ length entries → PaysForRound limits entries task round m) → (m : ℕ) → start < m → m ≤ length longer → PaysAt limits longer task m t
  from_round round r (Read next) wants shows steps goes pays m after within = elim (cases_lt (length entries) m) [
    | inl past ↦ let long = pushed_length entries entry in round_fresh limits longer task next m later (omega (arith, past, long))
    | inr le ↦ round_on round next r wants shows steps m le (pays m after le)
  ]
  from_round round r (Leave reply lacks) wants shows steps goes pays m after within = elim (cases_lt (length entries) m) [
    | inl past ↦ let long = pushed_length entries entry in pays_end limits longer actor m 1 (omega (arith, past, long)) (omega arith)
    | inr le ↦
        let h = pays m after le in
        let some = few_some limits actor task entries round h.left h.few in
        let most = one in
        pays_kept limits entries entry actor m (h.left + 1) 1 le (omega (arith, most, some)) h.pays
  ]
  from_round round r Begun wants shows steps goes pays m after within = elim goes [ inl e ↦ odd e | inr e ↦ odd e ]
  from_round round r other wants shows steps goes pays m after within = elim goes [ inl e ↦ odd e | inr e ↦ odd e ]

  -- before the first round
  from_epoch : (t : State) → is_entering t ≡ true → ((m : ℕ) → start < m → m ≤ length entries → PaysFrom limits entries actor m (one_memory limits + 3))
      → (m : ℕ) → start < m → m ≤ length longer → PaysAt limits longer task m t
  from_epoch (Enter epoch) enters pays m after within = from_each (one_memory limits + 3) (one_memory limits + 2) m within (omega arith) (omega arith) (pays m after)
  from_epoch other enters pays m after within = odd enters

  from_enter : (t : State) → t ≡ Read (first_read old) → ((m : ℕ) → start < m → m ≤ length entries → PaysFrom limits entries actor m (one_memory limits + 2))
      → (m : ℕ) → start < m → m ≤ length longer → PaysAt limits longer task m t
  from_enter t is pays m after within = rw is (record {
    left = one_memory limits;
    few = few_fresh limits actor task longer (first_read old) later;
    pays = from_each (one_memory limits + 2) (one_memory limits + 1) m within (omega arith) (omega arith) (pays m after);
  })

  pub from_state : (s t : State) (r : Recalled) → ShowsState old hand.spares (knows entries actor) r s → wanted_at hand.spares s ≡ Some step → (s ≡ Begun → ⊥)
      → (step ≡ step_of.Leave → ⊥) → StepsInRound old s answer t
      → ((m : ℕ) → start < m → m ≤ length entries → PaysAt limits entries task m s) → (m : ℕ) → start < m → m ≤ length longer → PaysAt limits longer task m t
  from_state Begun t r shows wants other stays steps pays m after within = absurd (other refl)
  from_state Epoch t r shows wants other stays steps pays m after within = from_epoch t steps pays m after within
  from_state (Enter epoch) t r shows wants other stays steps pays m after within = from_enter t (steps (ap is_writer same_command ∙ reader)) pays m after within
  from_state (Read round) t r shows wants other stays steps pays m after within =
      from_round round r t (same_Some (wanted_step round) step wants) shows steps (after_reads old steps.next steps.end t steps.goes) pays m after within
  from_state (Write round) t r shows wants other stays steps pays m after within = absurd (pays (length entries) begun (omega arith))
  from_state (Change now next) t r shows wants other stays steps pays m after within = absurd (pays (length entries) begun (omega arith))
  from_state (Leave reply lacks) t r shows wants other stays steps pays m after within = absurd (stays (sym (same_Some step_of.Leave step wants)))

pub steps_paid : StepsArePaid
steps_paid limits entries actor step answer reply old new state shown pays wants later direct acts command =
    by_running old.running new.running reply shown pays wants later direct acts.steps acts.allowed.ends command
  where
    by_running : (o n : Option UnderWay) (given : Option Reply) → IsActorWith limits actor (knows entries actor) (recalls entries actor) old.hand o
        → PaysReader limits entries actor o → wanted_by o ≡ Some step
        → IsState limits (entries ++ Step actor step answer given ∷ []) → IsDirect limits (entries ++ Step actor step answer given ∷ []) → StepsAt o answer n
        → (step ≡ step_of.Leave → IsSome given) → command_at n ≡ command_left given (command_at o)
        → PaysReader limits (entries ++ Step actor step answer given ∷ []) actor n
    by_running None n given shows pays wants later direct steps ends command = absurd (cc wants)
    by_running (Some running) None given shows pays wants later direct steps ends command = tt
    by_running (Some running) (Some now) (Some given) shows pays wants later direct steps ends command = absurd (cc command)
    by_running (Some running) (Some now) None shows pays wants later direct steps ends command = λ start m asked latest reader after within.
        elim (last_cases entries (Step actor step answer None) start actor asked latest) [
          | inr begins ↦ absurd (let e = begins.1 in cc e)
          | inl before ↦
              let goes = shows.goes in
              let same : running.op.task.command ≡ asked = asked_last limits entries state start actor asked running.op.task.command before
              (going running.op.task old.hand (knows entries actor) (recalls entries actor) running.op.state goes.shows.stands) in
              let other : running.op.state ≡ Begun → ⊥ = no_begin running.op old.hand (knows entries actor) running.wanted (ap is_writer same ∙ reader) goes.shows.limbo goes.wanted in
              let step_is : wanted_at old.hand.spares running.op.state ≡ Some step = no_sweep running.op old.hand (knows entries actor) step other goes.shows.limbo (goes.wanted ∙ wants) in
              from_state limits entries actor step answer state later direct start asked running.op.task old.hand shows.own_limits same reader (slice_get_below entries start _ before.begun)
              running.op.state now.op.state (recalls entries actor) goes.shows.stands step_is other
              (λ leaves. let none : IsSome {T = Reply} None = ends leaves in cc) steps (λ k low high. pays start k asked before reader low high) m after
              within
        ]
