-- Which steps of a change lose: the exchange that decides alone.
use Rattle.progress.proofs.Words.{◌≡◌, ◌<◌, ◌⊎◌, ℕ, zero, suc, Bool, true, false, Option, None, Some, refl, sym, ap, ◌∙◌, inl, inr, arith, is_some, Limits, Answer, Whether, Exchange, Record}
use Rattle.progress.proofs.Words.{Knowledge, Recalled, Task, IfSome, not, head_of, slot_of, Plan, May, Fits, meets}
use Rattle.std.specs.Prelude.{unwrap_or}
use Rattle.structure_changes.specs.Plans.{cleared_page, cleared_row, clears, needs_pid}
use Rattle.structure_changes.specs.declared.plan.Plan.TheVariants as plan_is
use Rattle.traces.specs.discipline.Discipline.{MayExchange}
use Rattle.traces.specs.discipline.Fitting.{FitsExchange, ReadsRemoved}
use Rattle.traces.specs.discipline.Knowledge.{Gone, Ready}
use Rattle.change_machine.specs.Changes.{AreEnough, Change, IsSoundState, MayLinkAs, ShowsState, StandsReady, base_row, linked_number, record_row, wanted_at}
use Rattle.change_machine.specs.Spares.{IsUnlinked, Spares, pid_of}
use Rattle.change_machine.specs.Taking.{wanted_number}
use Rattle.change_machine.specs.declared.change.State.{State}
use Rattle.change_machine.specs.declared.change.State.TheVariants as at
use Rattle.change_machine.specs.declared.taking.Kind.TheVariants.{Pid, Row}
use Rattle.change_machine.specs.declared.taking.Taking.{Taking}
use Rattle.change_machine.specs.declared.taking.Taking.TheVariants.{Bits, Take}
use Rattle.change_machine.proofs.Following.{record_is}
use Rattle.op_machine.specs.machine.Shows.{IsInChange}
use Rattle.op_parts.specs.declared.then.Then.{Then}
use Rattle.progress.specs.WritersAmong.{Decides}

-- what an exchange is told that it has to win
calm_exchange : (limits : Limits) (k : Knowledge) (slot old new : ℕ) (answer : Answer Record) → Fits limits k (Exchange slot old new) answer
    → ((went : Bool) → FitsExchange limits k slot old new went → went ≡ true) → meets (Exchange slot old new) answer ≡ false
calm_exchange limits k slot old new (Whether went) fits wins = ap not (wins went fits)
calm_exchange limits k slot old new answer fits wins = absurd fits

fills : (limits : Limits) (k : Knowledge) (slot new : ℕ) → 0 < slot → (went : Bool) → FitsExchange limits k slot 0 new went → went ≡ true
fills limits k zero new some went fits = absurd (omega (arith, some))
fills limits k (suc slot) new some went fits = fits

empties : (limits : Limits) (k : Knowledge) (slot old : ℕ) → 0 < slot → k.own.pages slot ≡ Ready old → (went : Bool) → FitsExchange limits k slot old 0 went → went ≡ true
empties limits k zero old some ready went fits = absurd (omega (arith, some))
empties limits k (suc slot) zero some ready went fits = fits
empties limits k (suc slot) (suc old) some ready went fits = fits.0 ready

clears_it : (limits : Limits) (k : Knowledge) (actor slot old : ℕ) → k.own.pages slot ≡ Gone → ReadsRemoved k slot old → MayExchange actor k slot old 0
    → (went : Bool) → FitsExchange limits k slot old 0 went
    → went ≡ true
clears_it limits k actor zero old gone reads may went fits = absurd (let both : Gone ≡ Ready may.base_row = sym gone ∙ may.ready in cc)
clears_it limits k actor (suc slot) zero gone reads may went fits = fits
clears_it limits k actor (suc slot) (suc old) gone reads may went fits = fits.1 gone reads

pid_some : (P : ℕ → Type 0) (o : Option ℕ) → is_some o ≡ true → IfSome o (λ pid. (0 < pid) × P pid) → 0 < unwrap_or o 0
pid_some P None some own = absurd (cc)
pid_some P (Some pid) some own = own.0

read_of : (k : Knowledge) (actor slot head number : ℕ) → (slot ≡ 0) ⊎ (0 < number) → MayExchange actor k slot head number → (slot ≡ 0) ⊎ (head ≡ 0) ⊎ (k.read.heads slot ≡ Some head)
read_of k actor zero head number some may = inl refl
read_of k actor (suc slot) zero number some may = inr (inl refl)
read_of k actor (suc slot) (suc head) zero some may = absurd (elim some [ inl e ↦ cc e | inr lt ↦ omega (arith, lt) ])
read_of k actor (suc slot) (suc head) (suc number) some may = inr (inr may.basis.head)

calm_taking : (taking : Taking) (answer : Answer Record) → meets (wanted_number taking) answer ≡ false
calm_taking (Bits Pid from word whole) answer = refl
calm_taking (Bits Row from word whole) answer = refl
calm_taking (Take Pid from number whole) answer = refl
calm_taking (Take Row from number whole) answer = refl

module _ (limits : Limits) (task : Task) (spares : Spares) (k : Knowledge) (r : Recalled) (now : Change) (after : Then) (shows : IsInChange task spares k r now after) (answer : Answer Record) where
  abbrev Asks : State → Type 0
  Asks state = Fits limits k (wanted_at now.limits now.plan spares state) answer × May task.actor k (wanted_at now.limits now.plan spares state)

  spare_pid : AreEnough now.limits now.plan spares → needs_pid now.plan ≡ true → 0 < pid_of spares
  spare_pid enough needs = pid_some (λ pid. IsUnlinked (k.own.pages pid)) spares.pid (enough.pid needs) shows.shows.are.page

  number_some : AreEnough now.limits now.plan spares → (slot_of now.plan ≡ 0) ⊎ (0 < linked_number now.limits now.plan spares)
  number_some enough = by_plan now.plan refl
    where
      placed : 0 < record_row now.limits now.plan spares
      placed = (record_is task.actor now.limits k now.plan spares shows.sound.room enough shows.shows.may shows.shows.keeps shows.shows.are).1

      by_plan : (plan : Plan) → now.plan ≡ plan → (slot_of now.plan ≡ 0) ⊎ (0 < linked_number now.limits now.plan spares)
      by_plan (plan_is.Root left root) e = inl (ap slot_of e)
      by_plan plan e = inr (rw e (rw e at placed))

  pub decides : now.state ≡ at.Link → May task.actor k (wanted_at now.limits now.plan spares now.state)
      → Decides k (slot_of now.plan) (head_of now.plan) (wanted_at now.limits now.plan spares now.state)
  decides is may =
      let enough : AreEnough now.limits now.plan spares = rw is at shows.sound.state in
      let here : May task.actor k (wanted_at now.limits now.plan spares at.Link) = rw is at may in
      record {
        number = linked_number now.limits now.plan spares;
        is = ap (wanted_at now.limits now.plan spares) is;
        read = read_of k task.actor (slot_of now.plan) (head_of now.plan) (linked_number now.limits now.plan spares) (number_some enough) here.1;
      }

  undone : IsSoundState now.limits now.plan spares at.Undo → ShowsState now.limits now.plan spares k at.Undo → k.own.pages (pid_of spares) ≡ Ready (base_row now.limits now.plan spares)
  undone sound ready = by_plan now.plan refl sound.1 ready
    where
      by_plan : (plan : Plan) → now.plan ≡ plan → needs_pid now.plan ≡ true → StandsReady now.limits now.plan spares k.own → k.own.pages (pid_of spares) ≡ Ready (base_row now.limits now.plan spares)
      by_plan (plan_is.Install pid head content) e needs ready = absurd (let both : false ≡ true = ap needs_pid (sym e) ∙ needs in cc)
      by_plan (plan_is.Split pid plan) e needs ready = rw e (rw e at ready).0
      by_plan (plan_is.Root left root) e needs ready = rw e (rw e at ready).0
      by_plan (plan_is.Unlink pid head unterm removal) e needs ready = absurd (let both : false ≡ true = ap needs_pid (sym e) ∙ needs in cc)

  cleared : IsSoundState now.limits now.plan spares at.Clear → ReadsRemoved k (cleared_page now.plan) (cleared_row now.plan)
  cleared sound = by_plan now.plan refl sound shows.shows.may.links
    where
      by_plan : (plan : Plan) → now.plan ≡ plan → clears now.plan ≡ true → MayLinkAs task.actor k now.plan → ReadsRemoved k (cleared_page now.plan) (cleared_row now.plan)
      by_plan (plan_is.Install pid head content) e sound links = absurd (let both : false ≡ true = ap clears (sym e) ∙ sound in cc)
      by_plan (plan_is.Split pid plan) e sound links = absurd (let both : false ≡ true = ap clears (sym e) ∙ sound in cc)
      by_plan (plan_is.Root left root) e sound links = absurd (let both : false ≡ true = ap clears (sym e) ∙ sound in cc)
      by_plan (plan_is.Unlink pid head unterm removal) e sound links = rw e (rw e at links).1

  by_state : (state : State) → now.state ≡ state → (state ≡ at.Link → ⊥) → Asks state → meets (wanted_at now.limits now.plan spares state) answer ≡ false
  by_state (at.Taking taking) is other asks = calm_taking taking answer
  by_state at.Base is other asks = refl
  by_state at.Ready is other asks =
      let sound = rw is at shows.sound.state in
      calm_exchange limits k (pid_of spares) 0 (base_row now.limits now.plan spares) answer asks.0 (fills limits k (pid_of spares) (base_row now.limits now.plan spares) (spare_pid sound.0 sound.1))
  by_state at.Place is other asks = refl
  by_state at.Link is other asks = absurd (other refl)
  by_state at.Undo is other asks =
      let sound = rw is at shows.sound.state in
      let ready = rw is at shows.shows.stands in
      calm_exchange limits k (pid_of spares) (base_row now.limits now.plan spares) 0 answer asks.0
      (empties limits k (pid_of spares) (base_row now.limits now.plan spares) (spare_pid sound.0 sound.1) (undone sound ready))
  by_state at.Clear is other asks =
      let sound = rw is at shows.sound.state in
      let gone = rw is at shows.shows.stands in
      calm_exchange limits k (cleared_page now.plan) (cleared_row now.plan) 0 answer asks.0
      (clears_it limits k task.actor (cleared_page now.plan) (cleared_row now.plan) gone.1 (cleared sound) asks.1.1)

  pub calm : (now.state ≡ at.Link → ⊥) → Fits limits k (wanted_at now.limits now.plan spares now.state) answer
      → May task.actor k (wanted_at now.limits now.plan spares now.state) → meets (wanted_at now.limits now.plan spares now.state) answer ≡ false
  calm other fits may = by_state now.state refl other (fits, may)
