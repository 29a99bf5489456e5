-- What an operation in its place is after an answer, from what its work or its sweep is.
use Rattle.op_machine.proofs.Words.{◌≡◌, ◌<◌, Option, Some, None, is_some, true, false, refl, sym, ap, subst, ◌∙◌, arith, IsSome, Answer, StepOf, Record, Spares, Hand, IsToldOp}
use Rattle.op_machine.proofs.Words.{Obeys, Op, Shows, asked_by, wanted_of, has_begun, Sweep, HoldsLimbo, Knowledge, Task, is_writer}
use Rattle.bw_model.specs.declared.step.Answer.TheVariants.{Start}
use Rattle.epochs.specs.Limbo.{Limbo}
use Rattle.op_machine.specs.machine.InPlace.{ShowsOn, Takes, Wants}
use Rattle.op_machine.specs.machine.Shows.{learn_last, recall_last, wanted_at}
use Rattle.op_machine.specs.machine.Spending.{Spends, SpendsSteps, steps_left, sweep_left}
use Rattle.op_machine.specs.machine.Sweeping.{HasFewer, IsSameWork, MovesSweep, ObeysSweep, with_limbo}
use Rattle.op_machine.specs.machine.Works.{AsksOn, IsToldWith, KeepsLimbo, asked_of}
use Rattle.op_machine.specs.machine.Wants.{Step}
use Rattle.op_machine.specs.machine.Outcomes.{is_changing, is_reading}
use Rattle.op_machine.specs.machine.States.{State, Begun, Epoch, Read}
use Rattle.op_machine.proofs.GoingLeft.{goes_left}
use Rattle.op_machine.proofs.Nexts.{asks, asks_none, fewer, fits_on, fits_swept, kept_after, kept_begun, left_first, left_is, nothing_left, rests, starts, sweep_asks, told_after, unswept}
use Rattle.sweep.specs.Bounded as sweep

-- whichever step is wanted, the operation obeys by it
obeys_by : (old : Op) (had : Hand) (told : Answer Record) (new : Op) (has : Hand) → ShowsOn old had told new has → (asked : StepOf Record) → Wants new has asked
    → Obeys old had told new has (Step asked)
obeys_by old had told new has goes asked wants = λ k r h f. wants (learn_last k (wanted_of old had) told) (recall_last r (wanted_of old had) told) (goes k r h f)

begun_if : (spares : Spares) (state : State) → IsSome (wanted_at spares state) → has_begun state ≡ true
begun_if spares Begun some = cc
begun_if spares other some = refl

asks_some : (o : Option Sweep) (after : Option (StepOf Record)) → is_some o ≡ true → IsSome (asked_by o after)
asks_some None after on = cc
asks_some (Some sweep) after on = refl

pub none_if : (o : Option Sweep) → is_some o ≡ false → o ≡ None
none_if None off = refl
none_if (Some sweep) off = cc

-- An operation that has begun has no sweep, and takes what its work takes.
module _ (old : Op) (had : Hand) (told : Answer Record) (begun : has_begun old.state ≡ true) (new : Op) (has : Hand)
    (after : AsksOn old had.spares told new has.spares) (keeps : KeepsLimbo old had told has) where
  shows : ShowsOn old had told new has
  shows k r h f =
      let fits = fits_on old had told begun k r h f in
      let none = unswept old had told begun k r h in
      rw (asks old had told begun k r h) (record {
        stands = after.works k r h.stands fits;
        limbo = rw (after.sweep, none, after.same.limits, after.same.actor) (keeps k r h.stands fits (kept_begun old had told begun k r h));
      })

  spends : (asked : StepOf Record) → Spends old had told new has (Step asked)
  spends asked k r h f =
      let fits = fits_on old had told begun k r h f in
      let none = unswept old had told begun k r h in
      let then = begun_if has.spares new.state after.asks in
      rw (asks old had told begun k r h) (rw
      (left_is old had told begun old had r none begun, left_is old had told begun new has (recall_last r (asked_of old had.spares) told) (after.sweep ∙ none) then, after.same.limits)
      (after.spends k r h.stands fits))

  pub takes_begun : IsToldOp old had told → Takes old had told new has
  takes_begun is = record {
    shows = shows;
    asks = rw (after.sweep ∙ unswept old had told begun is.k is.r is.shows) after.asks;
    obeys = obeys_by old had told new has shows;
    spends = spends;
    same = after.same;
    steps = after.steps;
    left = goes_left old.task old.state told new.state after.steps;
  }

-- before the first step of the work the sweep alone asks
module _ (old mid : Op) (spares : Spares) (limbo now : Limbo) (told : Answer Record) (first : old.state ≡ Begun) (same : IsSameWork old mid) (moves : MovesSweep old limbo told mid now) where
  abbrev had : Hand
  had = with_limbo spares limbo

  abbrev between : Hand
  between = with_limbo spares now

  shows_mid : ShowsOn old had told mid between
  shows_mid k r h f =
      rw (sweep_asks old mid spares limbo now told first same) (moves k r spares h (fits_swept old mid spares limbo now told first same k f))

  -- the sweep goes on
  module _ (on : is_some mid.sweep ≡ true) (few : HasFewer old mid) where
    spends_mid : (asked : StepOf Record) → Spends old had told mid between (Step asked)
    spends_mid asked k r h f = by mid.sweep refl
      where
        by : (o : Option Sweep) → mid.sweep ≡ o → SpendsSteps r old had told mid between (Step asked)
        by None over = let none = rw over at on in cc
        by (Some next) is =
            let less : sweep.steps_left old.task.limits next.state < sweep_left old.task.limits old.sweep old.state = rw is at few in
            fewer old mid spares limbo now told first same r (wanted_of old had) (steps_left r old had) (steps_left (recall_last r (wanted_of old had) told) mid between)
            (rw (is, same.task, same.state, first) (let n = rw first at less in omega (arith, n)))

    pub takes_swept : Takes old had told mid between
    takes_swept = record {
      shows = shows_mid;
      asks = asks_some mid.sweep (wanted_at spares mid.state) on;
      obeys = obeys_by old had told mid between shows_mid;
      spends = spends_mid;
      same = rw same.task (record { limits = refl; actor = refl; command = refl });
      steps = rw first tt;
      left = rw first tt;
    }

  -- and is over, so that the work begins
  module _ (none : mid.sweep ≡ None) where
    over : ObeysSweep old limbo told mid now None
    over k r spares h f = (none, moves k r spares h f)

    pub told_mid : IsToldOp old had told → IsToldWith mid between Start
    told_mid = told_after old mid spares limbo now told first same over

    module _ (new : Op) (has : Hand) (after : AsksOn mid spares Start new has.spares) (keeps : KeepsLimbo mid between Start has) where
      nothing : asked_of mid spares ≡ None
      nothing = asks_none old mid spares limbo now told first same over

      shows_after : ShowsOn old had told new has
      shows_after k r h f =
          let rest = rests old mid spares limbo now told first same over k r h f in
          let start = starts old mid spares limbo now told first same over k r h f in
          let kept = kept_after old mid spares limbo now told first same over k r h f in
          let works = after.works _ _ rest.1.stands start in
          let held = keeps _ _ rest.1.stands start kept in
          rw (sweep_asks old mid spares limbo now told first same) (record { stands = rw nothing at works; limbo = rw (after.sweep, rest.0, after.same.limits, after.same.actor) (rw nothing at held) })

      spends_after : (asked : StepOf Record) → Spends old had told new has (Step asked)
      spends_after asked k r h f =
          let rest = rests old mid spares limbo now told first same over k r h f in
          let start = starts old mid spares limbo now told first same over k r h f in
          let spent = after.spends _ _ rest.1.stands start in
          let less = rw nothing at spent in
          fewer old mid spares limbo now told first same r (wanted_of old had) (steps_left r old had) (steps_left (recall_last r (wanted_of old had) told) new has)
          (rw (
            sweep_asks old mid spares limbo now told first same,
            left_first old mid spares limbo now told first same r,
            after.sweep,
            rest.0,
            nothing_left
                new.task.limits new.state (begun_if has.spares new.state after.asks),
            after.same.limits,
            same.task,
          ) (let n = rw (same.state ∙ first, same.task) at
          less in omega (arith, n)))

      pub takes_after : Takes old had told new has
      takes_after = record {
        shows = shows_after;
        asks = rw (after.sweep ∙ none) after.asks;
        obeys = obeys_by old had told new has shows_after;
        spends = spends_after;
        same = record
            { limits = after.same.limits ∙ ap (λ t. t.limits) same.task; actor = after.same.actor ∙ ap (λ t. t.actor) same.task; command = after.same.command ∙ ap (λ t. t.command) same.task };
        steps = rw first tt;
        left = rw first tt;
      }

pub yet_begun : (state : State) → has_begun state ≡ false → state ≡ Begun
yet_begun Begun off = refl
yet_begun other off = cc

-- a reader's round is under way, so it has begun, and no change is
pub reading_begun : (state : State) → is_reading state ≡ true → (has_begun state ≡ true) × (is_changing state ≡ false)
reading_begun (Read round) on = (refl, refl)
reading_begun other on = cc

-- the first step of the work
pub starts_work : (task : Task) (sweep : Option Sweep) (spares : Spares) (state : State) → state ≡ Begun
    → AsksOn (record { task = task; sweep = sweep; state = state }) spares Start (record { task = task; sweep = sweep; state = Epoch }) spares
starts_work task sweep spares Begun first = record {
  works = λ k r h f. h;
  spends = λ k r h f. omega arith;
  asks = refl;
  same = record { limits = refl; actor = refl; command = refl };
  sweep = refl;
  steps = tt;
}
starts_work task sweep spares other first = cc

-- a reader has no sweep, and begins its work at once
module _ (old : Op) (had : Hand) (told : Answer Record) (first : old.state ≡ Begun) (reader : is_writer old.task.command ≡ false) where
  without_sweep : (k : Knowledge) (o : Option Sweep) → HoldsLimbo old.task old.state had.limbo k o → o ≡ None
  without_sweep k None holds = refl
  without_sweep k (Some sweep) holds = let e = sym holds.writer ∙ reader in cc

  pub takes_reader : (new : Op) → AsksOn old had.spares Start new had.spares → IsToldOp old had told → Takes old had told new had
  takes_reader new after is =
      let none = without_sweep is.k old.sweep is.shows.limbo in
      takes_after old old had.spares had.limbo had.limbo told first (record { task = refl; state = refl })
      (λ k r spares h f. subst (λ (o : Option Sweep). Shows old (with_limbo spares had.limbo) (learn_last k (asked_by o None) told) (recall_last r (asked_by o None) told)) (sym none) h)
      none new had after (λ k r h f kept. rw first kept)
