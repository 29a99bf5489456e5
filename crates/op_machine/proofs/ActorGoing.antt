-- One step of an operation, from what `next` promises.
use Rattle.std.proofs.Common.{◌≡◌, ◌≢◌, ◌<◌, ◌≤◌, ℕ, length, Bool, Option, Some, None, is_some, true, false, sym, ap, ◌∙◌, subst, refl, arith}
use Rattle.op_machine.proofs.Words.{IsSome, same_Some, Limits, Answer, StepOf, Record, Fits, Knowledge, learn, Recalled, blank, recall, AreThere, GoesLeft, StepsInRound, Hand}
use Rattle.op_machine.proofs.Words.{Spends, steps_left, Spares, Kind, Sweep}
use Rattle.bw_model.specs.declared.command.Reply.{Reply}
use Rattle.bw_model.specs.declared.step.Answer.TheVariants as answer
use Rattle.bw_model.specs.declared.step.Step.TheVariants as step
use Rattle.op_machine.specs.machine.InPlace.{IsOpShown, Takes, Wants}
use Rattle.op_machine.specs.machine.Ops.{Goes, HoldsLimbo, IsAtRestWith, IsOver, IsToldOp, IsToldOpThere, Obeys, Op, Shows, asked_by, wanted_of}
use Rattle.op_machine.specs.machine.Outcomes.{HasLeft, is_leaving}
use Rattle.op_machine.specs.machine.Shows.{FitsLast, ShowsState, learn_last, recall_last, wanted_at}
use Rattle.op_machine.specs.machine.Tasks.{IsSameTask, Task}
use Rattle.op_machine.specs.machine.Wants.{Step, Done}
use Rattle.op_machine.specs.machine.States.{State, Begun, Leave}
use Rattle.op_machine.specs.machine.UnderWay.{AsksIf, UnderWay, asking, running_at}
use Rattle.epochs.specs.Limbo.{Limbo}
use Rattle.op_machine.specs.machine.Lacks.{TellsLack}
use Rattle.op_machine.specs.machine.Actors.{ActsOn, IsActorWith, IsGoing, IsRunning, at_work, command_at, wanted_by}
use Rattle.op_machine.proofs.Leaving.{leaves_at}
use Rattle.op_machine.proofs.ActorSpending.{spends_last, spent_last}
use Rattle.op_machine.proofs.Readers.{of_use}
use Rattle.op_machine.proofs.Worth.{due_few}

-- an actor without an operation, and one with an operation
idle_of : (limits : Limits) (actor : ℕ) (k : Knowledge) (r : Recalled) (hand : Hand) (running : Option UnderWay) → command_at running ≡ None
    → IsActorWith limits actor k r hand running → IsAtRestWith limits actor hand k
idle_of limits actor k r hand None e h = h
idle_of limits actor k r hand (Some running) e h = cc

pub idle_at : (limits : Limits) (actor : ℕ) (k : Knowledge) (r : Recalled) (hand : Hand) (running : Option UnderWay) → command_at running ≡ None
    → IsActorWith limits actor k r hand running → IsAtRestWith limits actor hand k
idle_at limits actor k r hand running e h = idle_of limits actor k r hand running e h

less : (m n o : ℕ) → m < n → n < o → m < o
less m n o h i = omega arith

-- the first step
module _ (k : Knowledge) (had : Hand) (old : Op) (unswept : old.sweep ≡ None) (begun : old.state ≡ Begun) (shows : Shows old had k blank) where
  none : wanted_of old had ≡ None
  none = rw (unswept, begun) refl

  fits_start : FitsLast old.task.limits k (wanted_of old had) answer.Start
  fits_start = rw none refl

  pub told_start : IsToldOp old had answer.Start
  told_start = record { k = k; r = blank; shows = shows; fits = fits_start }

  -- what is known then
  pub shown_begun : (new : Op) (has : Hand) → Takes old had answer.Start new has → IsOpShown new has
  shown_begun new has takes = (learn_last k (wanted_of old had) answer.Start, recall_last blank (wanted_of old had) answer.Start, takes.shows k blank shows fits_start)

  pub begun_left : (limits : Limits) (actor : ℕ) (new : Op) (has : Hand) → old.task.limits ≡ limits → old.task.actor ≡ actor → (asked : StepOf Record)
      → Obeys old had answer.Start new has (Step asked) → IsSameTask old.task new.task
      → IsRunning limits actor k blank has (record { op = new; wanted = asked })
  begun_left limits actor new has own_limits own_actor asked o same = record {
    own_limits = same.limits ∙ own_limits;
    own_actor = same.actor ∙ own_actor;
    goes = rw none at (o k blank shows fits_start);
  }

  pub begun_few : (most : ℕ) (new : Op) (has : Hand) (asked : StepOf Record) → Spends old had answer.Start new has (Step asked)
      → ((r : Recalled) (hand : Hand) → steps_left r old hand < most) → steps_left blank new has < most
  begun_few most new has asked spends few =
      less (steps_left blank new has) (steps_left blank old had) most
      (rw none at (spends k blank shows fits_start))
      (few blank had)

-- an operation that wants another step than the leave isn't at its leave
stays_in : (task : Task) (spares : Spares) (limbo : Limbo) (k : Knowledge) (sweep : Option Sweep) (state : State) → HoldsLimbo task state limbo k sweep
    → asked_by sweep (wanted_at spares state) ≢ Some step.Leave → is_leaving state ≡ false
stays_in task spares limbo k None (Leave reply lacks) holds stays = absurd (stays refl)
stays_in task spares limbo k (Some sweep) (Leave reply lacks) holds stays = let first = holds.first in cc
stays_in task spares limbo k sweep other holds stays = refl

-- a step with its answer
module _ (limits : Limits) (actor : ℕ) (k : Knowledge) (r : Recalled) (had has : Hand) (old : UnderWay) (new : Op) (a : Answer Record)
    (running : IsRunning limits actor k r had old) (fits : Fits limits k old.wanted a) where
  fits_last : FitsLast old.op.task.limits k (wanted_of old.op had) a
  fits_last = rw (running.own_limits, running.goes.wanted) fits

  pub told_with : IsToldOp old.op had a
  told_with = record { k = k; r = r; shows = running.goes.shows; fits = fits_last }

  -- what wants another step has another one wanted
  pub wants_other : wanted_of old.op had ≢ Some step.Leave → old.wanted ≢ step.Leave
  wants_other other e = other (running.goes.wanted ∙ ap Some e)

  pub stays_at : old.wanted ≢ step.Leave → is_leaving old.op.state ≡ false
  stays_at stays = stays_in old.op.task had.spares had.limbo k old.op.sweep old.op.state running.goes.shows.limbo (λ e. stays (same_Some old.wanted step.Leave (sym running.goes.wanted ∙ e)))

  pub goes_on : (lacks : Option Kind) (asked : StepOf Record) → old.wanted ≢ step.Leave → Obeys old.op had a new has (Step asked)
      → Spends old.op had a new has (Step asked) → IsSameTask old.op.task new.task → length new.task.errands ≤ 16
      → StepsInRound old.op.task old.op.state a new.state → GoesLeft old.op.task old.op.state a new.state
      → ActsOn limits actor k r (at_work had old lacks) old.wanted a None (at_work has (record { op = new; wanted = asked }) lacks)
  goes_on lacks asked other o spends same short steps left = record {
    allowed = record { may = rw (← running.own_actor) running.goes.may.may; frees = rw (← running.own_limits, ← running.own_actor) running.goes.may.frees; replied = tt; ends = λ e. absurd (other e) };
    useful = of_use k r old.op had old.wanted running.goes;
    halved = running.goes.may.halved;
    shows = record {
      own_limits = same.limits ∙ running.own_limits;
      own_actor = same.actor ∙ running.own_actor;
      goes = goes;
    };
    few =
        rw (← (same.limits ∙ running.own_limits)) (due_few (learn k old.wanted a) (recall r old.wanted a) new has goes.shows short);
    spends =
        rw (← running.own_limits)
        (spent_last old.op.task.limits r (wanted_of old.op had) old.wanted a (steps_left r old.op had) (λ q. steps_left q new has) running.goes.wanted (spends k r running.goes.shows fits_last));
    lacks = refl;
    steps = steps;
    left = left;
  }
    where
      goes : Goes (learn k old.wanted a) (recall r old.wanted a) new has asked
      goes = rw running.goes.wanted at (o k r running.goes.shows fits_last)

  -- what an operation that leaves tells of what ran out
  tells_lack : (reply : Reply) (lacks : Option Kind) → old.op.state ≡ Leave reply lacks → TellsLack limits k reply lacks
  tells_lack reply lacks is =
      let stands : ShowsState old.op.task had.spares k r (Leave reply lacks) = subst (ShowsState old.op.task had.spares k r) is running.goes.shows.stands in
      rw (← running.own_limits) stands.2

  pub is_done : (before : Option Kind) (reply : Reply) (lacks : Option Kind) → old.op.state ≡ Leave reply lacks → Obeys old.op had a new has (Done reply)
      → ActsOn limits actor k r (at_work had old before) old.wanted a (Some reply) (record { hand = has; running = None; lacks = lacks })
  is_done before reply lacks is o = record {
    allowed = record {
      may = rw (← running.own_actor) running.goes.may.may;
      frees = rw (← running.own_limits, ← running.own_actor) running.goes.may.frees;
      replied = (last, rw (← running.own_limits, ← running.own_actor) ends.may);
      ends = λ e. refl;
    };
    useful = of_use k r old.op had old.wanted running.goes;
    halved = running.goes.may.halved;
    shows = record {
      spares = rw (← running.own_limits) (rw last ends.rests);
      limbo = rw (← running.own_limits, ← running.own_actor) (rw running.goes.wanted at over.limbo);
    };
    spends = rw (← running.own_limits) (spends_last r had has old a ends.is_last);
    few = omega arith;
    lacks = tells_lack reply lacks is;
    steps = tt;
    left = tt;
  }
    where
      over : IsOver old.op.task k (wanted_of old.op had) a has reply
      over = o k r running.goes.shows fits_last

      ends : HasLeft old.op.task k (wanted_of old.op had) a has.spares reply
      ends = over.left

      last : old.wanted ≡ step.Leave
      last = same_Some old.wanted step.Leave (sym running.goes.wanted ∙ ends.is_last)

-- what is under way in the place of an operation
asking_is : (op : Op) (hand : Hand) (running : UnderWay) (wanted : Option (StepOf Record)) → wanted_of op hand ≡ wanted → asking op wanted ≡ Some running
    → (running.op ≡ op) × (wanted_of op hand ≡ Some running.wanted)
asking_is op hand running None is e = cc
asking_is op hand running (Some asked) is e =
    let same : running ≡ record { op = op; wanted = asked } = same_Some running (record { op = op; wanted = asked }) (sym e) in
    (ap (λ (q : UnderWay). q.op) same, is ∙ ap Some (sym (ap (λ (q : UnderWay). q.wanted) same)))

running_is : (on : Bool) (op : Op) (hand : Hand) (running : UnderWay) → running_at on op hand ≡ Some running → (on ≡ true) × (running.op ≡ op) × (wanted_of op hand ≡ Some running.wanted)
running_is false op hand running e = cc
running_is true op hand running e = let is = asking_is op hand running (wanted_of op hand) refl e in (refl, is.0, is.1)

pub is_asking : (op : Op) (hand : Hand) (asked : StepOf Record) → wanted_of op hand ≡ Some asked → running_at true op hand ≡ Some (record { op = op; wanted = asked })
is_asking op hand asked e = ap (asking op) e

asking_some : (op : Op) (wanted : Option (StepOf Record)) → IsSome wanted → command_at (asking op wanted) ≡ Some op.task.command
asking_some op None some = cc
asking_some op (Some asked) some = refl

-- whether there is an operation, and its command
pub command_is : (op : Op) (hand : Hand) → AsksIf true op hand → command_at (running_at true op hand) ≡ Some op.task.command
command_is op hand asks = asking_some op (wanted_of op hand) asks

pub command_same : (on : Bool) (op new : Op) (hand has : Hand) → AsksIf on op hand → IsSome (wanted_of new has) → IsSameTask op.task new.task
    → command_at (running_at on new has) ≡ command_at (running_at on op hand)
command_same false op new hand has asked asks same = refl
command_same true op new hand has asked asks same = command_is new has asks ∙ ap Some same.command ∙ sym (command_is op hand asked)

pub is_busy : (on : Bool) (op : Op) (hand : Hand) → AsksIf on op hand → on ≡ is_some (command_at (running_at on op hand))
is_busy false op hand asks = refl
is_busy true op hand asks = sym (ap is_some (command_is op hand asks))

pub is_on : (on : Bool) (op : Op) (hand : Hand) → is_some (command_at (running_at on op hand)) ≡ true → on ≡ true
is_on false op hand busy = cc
is_on true op hand busy = refl

-- what an actor shows, its operation shows
shown_with : (limits : Limits) (actor : ℕ) (k : Knowledge) (r : Recalled) (op : Op) (hand : Hand) (wanted : Option (StepOf Record)) → wanted_of op hand ≡ wanted
    → IsSome wanted → IsActorWith limits actor k r hand (asking op wanted) → Shows op hand k r
shown_with limits actor k r op hand None is some h = cc
shown_with limits actor k r op hand (Some asked) is some h = h.goes.shows

pub shown_at : (limits : Limits) (actor : ℕ) (k : Knowledge) (r : Recalled) (op : Op) (hand : Hand) → AsksIf true op hand
    → IsActorWith limits actor k r hand (running_at true op hand) → Shows op hand k r
shown_at limits actor k r op hand asks h = shown_with limits actor k r op hand (wanted_of op hand) refl asks h

-- the answer that an operation takes in its place, and what it goes on to
module _ (limits : Limits) (actor : ℕ) (k : Knowledge) (r : Recalled) (on : Bool) (op : Op) (had : Hand) (before : Option Kind) (a : Answer Record)
    (going : IsGoing limits actor k r (record { hand = had; running = running_at on op had; lacks = before }) a) where
  found : (on ≡ true) × (going.running.op ≡ op) × (wanted_of op had ≡ Some going.running.wanted)
  found = running_is on op had going.running going.is

  pub told_here : IsToldOp op had a
  told_here = rw (← found.1) (told_with limits actor k r had had going.running going.running.op a going.shows going.fits)

  pub told_there_here : (is_there : ℕ → Record → Type 0) → AreThere is_there (learn k going.running.wanted a) → IsToldOpThere is_there op had a
  told_there_here is_there there = rw (← found.1) (record {
    k = k;
    r = r;
    shows = going.shows.goes.shows;
    fits = fits_last limits actor k r had had going.running going.running.op a going.shows going.fits;
    there = rw going.shows.goes.wanted there;
  })

  -- it wants what the actor wants
  pub asked_here : (asked : StepOf Record) → wanted_by (running_at on op had) ≡ Some asked → wanted_of op had ≡ Some asked
  asked_here asked wants = found.2 ∙ sym (ap wanted_by going.is) ∙ wants

  pub stays_here : wanted_by (running_at on op had) ≢ Some step.Leave → is_leaving op.state ≡ false
  stays_here stays =
      rw (← found.1) (stays_at limits actor k r had had going.running going.running.op a going.shows going.fits (λ e. stays (ap wanted_by going.is ∙ ap Some e)))

  pub leaves_here : wanted_by (running_at on op had) ≡ Some step.Leave → is_leaving op.state ≡ true
  leaves_here leaves = leaves_at had.spares op.sweep op.state (found.2 ∙ sym (ap wanted_by going.is) ∙ leaves)

  module _ (new : Op) (has : Hand) (takes : Takes op had a new has) where
    pub shown_then : IsOpShown new has
    shown_then = (learn_last told_here.k (wanted_of op had) a, recall_last told_here.r (wanted_of op had) a, takes.shows told_here.k told_here.r told_here.shows told_here.fits)

    pub goes_here : (asked : StepOf Record) → wanted_by (running_at on op had) ≢ Some step.Leave → Wants new has asked → length new.task.errands ≤ 16
        → ActsOn limits actor k r (record { hand = had; running = running_at on op had; lacks = before }) going.running.wanted a None
        (record { hand = has; running = running_at on new has; lacks = before })
    goes_here asked stays wants short =
        let from : Takes going.running.op had a new has = rw found.1 takes in
        let went : ActsOn limits actor k r (at_work had going.running before) going.running.wanted a None (at_work has (record { op = new; wanted = asked }) before) =
        goes_on limits actor k r had has going.running new a going.shows going.fits before asked (λ e. stays (ap wanted_by going.is ∙ ap Some e))
        (from.obeys asked wants) (from.spends asked) from.same short from.steps from.left in
        let is : running_at on new has ≡ Some (record { op = new; wanted = asked }) = rw found.0 (is_asking new has asked (wants shown_then.0 shown_then.1 shown_then.2).wanted) in
        rw going.is (rw is went)

  -- it leaves
  pub done_here : (reply : Reply) (lacks : Option Kind) → op.state ≡ Leave reply lacks
      → ((hand : Hand) (told : Answer Record) → Obeys op hand told op hand (Done reply))
      → ActsOn limits actor k r (record { hand = had; running = running_at on op had; lacks = before }) going.running.wanted a (Some reply) (record { hand = had; running = None; lacks = lacks })
  done_here reply lacks is obeys =
      let from : Obeys going.running.op had a op had (Done reply) = rw found.1 (obeys had a) in
      rw going.is (is_done limits actor k r had had going.running op a going.shows going.fits before reply lacks (ap (λ (o : Op). o.state) found.1 ∙ is) from)
