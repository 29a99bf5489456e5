-- A seat whose operation wants a step may take it, whatever the others have done; and what the seat keeps then.
use Rattle.std.proofs.Common.{◌≡◌, ◌<◌, ◌≤◌, ◌+◌, ◌*◌, inl, ℕ, List, [], ◌∷◌, ◌++◌, Option, refl, sym, ap, ◌∙◌, subst, arith, append-nil}
use Rattle.std.specs.Prelude.{IsSome, IfSome, Some, None}
use Rattle.running_tree.proofs.Words.{same_Some, UnderWay, steps_due, Command, Reply, Limits, Answer, StepOf, Leave, Record, Extends, Fits, IsAnswer, Hand, HaveLaws, IsLawfulRun, KeepsLack}
use Rattle.running_tree.proofs.Words.{IsSeated, replaced_same}
use Rattle.op_machine.specs.machine.Actors.{Actor, ActsOn, IsActorWith, IsGoing, IsRunning, IsToldActor, command_left, knows_then, running_command, wanted_by}
use Rattle.bw_model.specs.declared.step.Answer.TheVariants as answer
use Rattle.traces.specs.declared.trace.Entry.{Entry}
use Rattle.traces.specs.declared.trace.Entry.TheVariants.{Step}
use Rattle.traces.specs.discipline.Discipline.{IsAllowed, May, MayFree, MayReply}
use Rattle.traces.specs.discipline.Knowledge.{Knowledge, after_reply, knows, learn}
use Rattle.traces.specs.discipline.Recalled.{IsStepSpent, cause_worth, Recalled, recall, recalls}
use Rattle.traces.specs.trace.Trace.{command_of, commands_after, memory_of}
use Rattle.traces.specs.discipline.Useful.{IsUseful}
use Rattle.linearization.specs.Halves.{IsHalved}
use Rattle.linearization.specs.Readers.{IsOfUse}
use Rattle.op_machine.proofs.Readers.{of_use}
use Rattle.op_machine.specs.machine.Bounded.{left_at}
use Rattle.op_machine.specs.machine.Shows.{ShowsState}
use Rattle.op_machine.specs.machine.Spending.{sweep_left}
use Rattle.op_machine.specs.machine.Tasks.{Task}
use Rattle.op_machine.specs.machine.States.{State}
use Rattle.op_machine.specs.machine.States as state
use Rattle.table_rule.specs.Steps.{IsLawfulStep, Took, with_step}
use Rattle.progress.specs.ReaderStates.{PaysReader}
use Rattle.progress.specs.WriterStates.{PaysWriter}
use Rattle.tree_law.specs.Direct.{Accounts, StaysDirect}
use Rattle.tree_law.specs.State.{IsState}
use Rattle.running_tree.proofs.LackLaws.{lack_stepped}

-- no begin stands between the run and the step
pub without_begin : (run : List Entry) (a : ℕ) (step : StepOf Record) (told : Answer Record) (reply : Option Reply) → run ++ Step a step told reply ∷ [] ≡ with_step run a None step told reply
without_begin run a step told reply = ap (λ (before : List Entry). before ++ Step a step told reply ∷ []) (sym (append-nil run))

-- An operation that has not ended has a step left.
state_left : (task : Task) (hand : Hand) (k : Knowledge) (r : Recalled) (s : State) → ShowsState task hand.spares k r s → 0 < left_at task.limits r hand.spares s
state_left task hand k r state.Begun h = omega arith
state_left task hand k r other h = omega arith

some_more : (m n o : ℕ) → 0 < n → 0 < (m + n) + o
some_more m n o some = omega arith

pub some_left : (limits : Limits) (a : ℕ) (k : Knowledge) (r : Recalled) (hand : Hand) (running : UnderWay) → IsRunning limits a k r hand running → 0 < steps_due r hand (Some running)
some_left limits a k r hand running h =
    some_more (sweep_left running.op.task.limits running.op.sweep running.op.state) (left_at running.op.task.limits r hand.spares running.op.state) _
    (state_left running.op.task hand k r running.op.state h.goes.shows.stands)

-- The actor has an operation, which wants the step.
pub record Wants (limits : Limits) (a : ℕ) (k : Knowledge) (r : Recalled) (now : Actor) (asked : StepOf Record) : Type 0 where
  pub running : UnderWay
  pub is : now.running ≡ Some running
  pub shows : IsRunning limits a k r now.hand running
  pub wanted : running.wanted ≡ asked

pub wants : (limits : Limits) (a : ℕ) (k : Knowledge) (r : Recalled) (now : Actor) (asked : StepOf Record) → IsActorWith limits a k r now.hand now.running
    → wanted_by now.running ≡ Some asked → Wants limits a k r now asked
wants limits a k r now asked h e = let found = go now.running h e in record { running = found.0; is = found.1; shows = found.2; wanted = found.3 }
  where
    go : (o : Option UnderWay) → IsActorWith limits a k r now.hand o → wanted_by o ≡ Some asked
        → (running : UnderWay) × (o ≡ Some running) × IsRunning limits a k r now.hand running × (running.wanted ≡ asked)
    go None h e = cc
    go (Some running) h e = (running, refl, h, same_Some running.wanted asked e)

module _ (limits : Limits) (a : ℕ) (k : Knowledge) (r : Recalled) (now : Actor) (asked : StepOf Record) (w : Wants limits a k r now asked) where
  pub may : May a k asked
  may = subst (May a k) w.wanted (subst (λ n. May n k w.running.wanted) w.shows.own_actor w.shows.goes.may.may)

  frees : MayFree limits a k asked
  frees =
      subst (MayFree limits a k) w.wanted
      (subst (λ n. MayFree limits n k w.running.wanted) w.shows.own_actor (subst (λ l. MayFree l w.running.op.task.actor k w.running.wanted) w.shows.own_limits w.shows.goes.may.frees))

  pub useful : IsOfUse k asked
  useful = subst (IsOfUse k) w.wanted (of_use k r w.running.op now.hand w.running.wanted w.shows.goes)

  pub halved : IsHalved k asked
  halved = subst (IsHalved k) w.wanted w.shows.goes.may.halved

  pub allowed : (asked ≡ Leave → ⊥) → IsAllowed limits a k asked None
  allowed other = record { may = may; frees = frees; replied = tt; ends = λ e. absurd (other e) }

  pub due : 0 < steps_due r now.hand now.running
  due = subst (λ o. 0 < steps_due r now.hand o) (sym w.is) (some_left limits a k r now.hand w.running w.shows)

  module _ (told : Answer Record) (fits : Fits limits k asked told) where
    abbrev pub going : IsGoing limits a k r now told
    going = record { running = w.running; is = w.is; shows = w.shows; fits = subst (λ s. Fits limits k s told) (sym w.wanted) fits }

    pub is_told : IsToldActor now told
    is_told = record { limits = limits; actor = a; k = k; r = r; going = going }

    -- what was taken is what was asked
    pub goes_so : (reply : Option Reply) (new : Actor) → ActsOn limits a k r now w.running.wanted told reply new → ActsOn limits a k r now asked told reply new
    goes_so reply new g = subst (λ s. ActsOn limits a k r now s told reply new) w.wanted g

-- only a Leave has a reply
pub no_reply : (limits : Limits) (a : ℕ) (k : Knowledge) (step : StepOf Record) (reply : Option Reply) → (step ≡ Leave → ⊥) → IsAllowed limits a k step reply → reply ≡ None
no_reply limits a k step None other h = refl
no_reply limits a k step (Some reply) other h = absurd (other h.replied.0)

-- what is known after a step
pub grown_so : (limits : Limits) (a : ℕ) (seen : List Entry) (asked : StepOf Record) (told : Answer Record) (reply : Option Reply) (later : List Entry)
    → (took : Took IsLawfulRun limits a seen None asked told reply later) → later ≡ took.run ++ Step a asked told reply ∷ []
grown_so limits a seen asked told reply later took = took.grown ∙ sym (without_begin took.run a asked told reply)

pub known_after : HaveLaws
    → (limits : Limits) (a : ℕ) (seen : List Entry) (asked : StepOf Record) (told : Answer Record) (reply : Option Reply) (later : List Entry)
    → Took IsLawfulRun limits a seen None asked told reply later → knows later a ≡ knows_then (knows seen a) asked told reply
known_after laws limits a seen asked told reply later took =
    ap (λ run. knows run a) (grown_so limits a seen asked told reply later took) ∙ ap (λ (ks : ℕ → Knowledge). ks a) (laws.grow limits took.run (Step a asked told reply)).known
    ∙ replaced_same a (after_reply (learn (knows took.run a) asked told) reply) (knows took.run) ∙ ap (λ q. knows_then q asked told reply) (laws.own limits a seen took.run took.extends).known

module _ (laws : HaveLaws) (limits : Limits) (a : ℕ) (seen : List Entry) (now : Actor) (h : IsSeated limits a seen now) (asked : StepOf Record) (reply : Option Reply)
    (allowed : IsAllowed limits a (knows seen a) asked reply) (useful : IsOfUse (knows seen a) asked) (halved : IsHalved (knows seen a) asked) where
  abbrev k : Knowledge
  k = knows seen a

  stays : (run : List Entry) (told : Answer Record) (rest : ℕ) → IsLawfulRun limits run → Extends a seen run → IsAnswer (memory_of limits run) asked told
      → IsStepSpent limits (recalls seen a) asked told (steps_due (recalls seen a) now.hand now.running) rest → rest ≤ cause_worth limits * 10 → StaysDirect limits run (Step a asked told reply) a rest
  stays run told rest legal x is spent few =
      let lasts = laws.own limits a seen run x in
      laws.steps_directly limits run a (steps_due (recalls seen a) now.hand now.running) rest asked told reply legal.state
      (subst (λ q. IsAllowed limits a q asked reply) (sym lasts.known) allowed) (subst (λ q. IsOfUse q asked) (sym lasts.known) useful) is legal.direct (lasts.affords _ h.pays)
      (subst (λ q. IsStepSpent limits q asked told (steps_due (recalls seen a) now.hand now.running) rest) (sym lasts.recalled) spent)
      few

  -- a reader is paid for, whatever the others have done
  reads_on : (run : List Entry) → IsLawfulRun limits run → Extends a seen run → PaysReader limits run a now.running
  reads_on run legal x = laws.readers.lasts limits a seen run now x legal.readers h.shows h.reads

  writes_on : (run : List Entry) → IsLawfulRun limits run → Extends a seen run → PaysWriter limits run a now.running
  writes_on run legal x = laws.writers.lasts limits a seen run now x legal.writers h.shows h.writes

  pub may_take : wanted_by now.running ≡ Some asked → IsSome (command_of seen a) → 0 < steps_due (recalls seen a) now.hand now.running → IsLawfulStep IsLawfulRun limits a seen None asked reply
  may_take asks busy some run told legal x is =
      let lasts = laws.own limits a seen run x in
      let later : IsState limits (run ++ Step a asked told reply ∷ []) = laws.steps limits run a asked told reply legal.state
      (subst IsSome (sym lasts.command) busy) (subst (λ q. IsAllowed limits a q asked reply) (sym lasts.known) allowed) is in
      let direct = (stays run told 0 legal x is (inl some) (omega arith)).state in
      subst (IsLawfulRun limits) (without_begin run a asked told reply) (record {
        state = later;
        direct = direct;
        readers = laws.readers.steps limits run a asked told reply now legal.readers (reads_on run legal x) asks later direct.direct;
        writers = laws.writers.steps limits run a asked told reply now legal.writers (writes_on run legal x) asks later direct.direct;
        paid =
            laws.steps_paid limits run a asked told reply legal.paid (subst IsSome (sym lasts.command) busy)
            (subst (λ q. IsAllowed limits a q asked reply) (sym lasts.known) allowed) (subst (λ q. IsUseful q asked) (sym lasts.known) useful.useful)
            (subst (λ q. IsHalved q asked) (sym lasts.known) halved) is;
      })

  module _ (told : Answer Record) (later : List Entry) (took : Took IsLawfulRun limits a seen None asked told reply later) where
    pub grown : later ≡ took.run ++ Step a asked told reply ∷ []
    grown = grown_so limits a seen asked told reply later took

    pub leaves : IfSome reply (λ given. (asked ≡ Leave) × (told ≡ answer.Done))
    leaves = last_of reply allowed.replied
      where
        last_of : (o : Option Reply) → IfSome o (λ given. (asked ≡ Leave) × MayReply limits a k given) → IfSome o (λ given. (asked ≡ Leave) × (told ≡ answer.Done))
        last_of None e = tt
        last_of (Some given) e = let is : IsAnswer (memory_of limits took.run) Leave told = subst (λ s. IsAnswer (memory_of limits took.run) s told) e.0 took.answered in (e.0, is)

    pub known_then : knows later a ≡ knows_then k asked told reply
    known_then = known_after laws limits a seen asked told reply later took

    pub recalled_then : recalls later a ≡ recall (recalls seen a) asked told
    recalled_then = ap (λ run. recalls run a) grown ∙ ap (λ (rs : ℕ → Recalled). rs a) (laws.grow limits took.run (Step a asked told reply)).recalled
        ∙ replaced_same a (recall (recalls took.run a) asked told) (recalls took.run) ∙ ap (λ q. recall q asked told) (laws.own limits a seen took.run took.extends).recalled

    pub command_then : command_of later a ≡ command_left reply (command_of seen a)
    command_then = ap (λ run. command_of run a) grown ∙ ap (λ (cs : ℕ → Option Command). cs a) (laws.grow limits took.run (Step a asked told reply)).commands
        ∙ left (command_of took.run) reply ∙ ap (command_left reply) (laws.own limits a seen took.run took.extends).command
      where
        left : (commands : ℕ → Option Command) (o : Option Reply) → commands_after commands (Step a asked told o) a ≡ command_left o (commands a)
        left commands None = refl
        left commands (Some given) = replaced_same a None commands

    -- what has a reply is the leave
    replies_last : (given : Reply) → reply ≡ Some given → asked ≡ Leave
    replies_last given is = (subst (λ o. IfSome o (λ given. (asked ≡ Leave) × (told ≡ answer.Done))) is leaves).0

    -- what the seat keeps after it
    -- a reader is paid for still
    reads_then : wanted_by now.running ≡ Some asked → (new : Actor) → ActsOn limits a k (recalls seen a) now asked told reply new
        → running_command new ≡ command_left reply (running_command now) → PaysReader limits later a new.running
    reads_then asks new goes runs =
        let lasts = laws.own limits a seen took.run took.extends in
        let kept : IsLawfulRun limits (took.run ++ Step a asked told reply ∷ []) = subst (IsLawfulRun limits) grown took.kept in
        let shown : IsActorWith limits a (knows took.run a) (recalls took.run a) now.hand now.running =
        subst (λ q. IsActorWith limits a q (recalls took.run a) now.hand now.running) (sym lasts.known) (subst (λ q. IsActorWith limits a k q now.hand now.running) (sym lasts.recalled) h.shows) in
        let acts : ActsOn limits a (knows took.run a) (recalls took.run a) now asked told reply new =
        subst (λ q. ActsOn limits a q (recalls took.run a) now asked told reply new) (sym lasts.known) (subst (λ q. ActsOn limits a k q now asked told reply new) (sym lasts.recalled) goes) in
        subst (λ run. PaysReader limits run a new.running) (sym grown)
        (laws.readers.stepped limits took.run a asked told reply now new took.legal.state shown (reads_on took.run took.legal took.extends) asks kept.state kept.direct.direct acts runs)

    writes_then : wanted_by now.running ≡ Some asked → (new : Actor) → ActsOn limits a k (recalls seen a) now asked told reply new
        → running_command new ≡ command_left reply (running_command now) → PaysWriter limits later a new.running
    writes_then asks new goes runs =
        let lasts = laws.own limits a seen took.run took.extends in
        let kept : IsLawfulRun limits (took.run ++ Step a asked told reply ∷ []) = subst (IsLawfulRun limits) grown took.kept in
        let shown : IsActorWith limits a (knows took.run a) (recalls took.run a) now.hand now.running =
        subst (λ q. IsActorWith limits a q (recalls took.run a) now.hand now.running) (sym lasts.known) (subst (λ q. IsActorWith limits a k q now.hand now.running) (sym lasts.recalled) h.shows) in
        let acts : ActsOn limits a (knows took.run a) (recalls took.run a) now asked told reply new =
        subst (λ q. ActsOn limits a q (recalls took.run a) now asked told reply new) (sym lasts.known) (subst (λ q. ActsOn limits a k q now asked told reply new) (sym lasts.recalled) goes) in
        subst (λ run. PaysWriter limits run a new.running) (sym grown)
        (laws.writers.stepped limits took.run a asked told reply now new took.legal.state shown (writes_on took.run took.legal took.extends) asks kept.state kept.direct.direct acts runs)

    pub seated_then : wanted_by now.running ≡ Some asked → (new : Actor) → ActsOn limits a k (recalls seen a) now asked told reply new
        → running_command new ≡ command_left reply (running_command now) → IsSome (command_of seen a) → IsSeated limits a later new
    seated_then asks new goes runs busy = record {
      lawful = took.kept;
      shows = subst (λ q. IsActorWith limits a q (recalls later a) new.hand new.running) (sym known_then)
          (subst (λ q. IsActorWith limits a (knows_then k asked told reply) q new.hand new.running) (sym recalled_then) goes.shows);
      runs = runs ∙ ap (command_left reply) h.runs ∙ sym command_then;
      pays = subst (λ q. Accounts limits later a (steps_due q new.hand new.running)) (sym recalled_then)
          (subst (λ run. Accounts limits run a (steps_due (recall (recalls seen a) asked told) new.hand new.running)) (sym grown)
          (stays took.run told (steps_due (recall (recalls seen a) asked told) new.hand new.running) took.legal took.extends took.answered goes.spends goes.few).account);
      reads = reads_then asks new goes runs;
      writes = writes_then asks new goes runs;
      lacks = subst (λ run. KeepsLack limits a run new.lacks) (sym grown) (lack_stepped limits a seen took.run asked told reply now.lacks new.lacks took.extends busy h.lacks goes.lacks replies_last
          (ap (λ run. knows run a) (sym grown) ∙ known_then) (ap (λ run. command_of run a) (sym grown) ∙ command_then));
    }
