-- A reader is paid for whatever others do, and where it begins.
use Rattle.progress.proofs.Words.{◌≡◌, ◌<◌, ◌≤◌, ◌+◌, ◌*◌, ◌++◌, ℕ, List, [], ◌∷◌, length, take, Bool, true, false, cond, Option, None, Some, refl, sym, ap, subst, ◌∙◌, inl, inr, arith}
use Rattle.progress.proofs.Words.{append_assoc, if◌then◌else◌, slice_get, cases_lt, same_Some, either, Limits, is_writer, Command, Entry, Begin, Step, Knowledge, knows, Recalled, recalls}
use Rattle.progress.proofs.Words.{memory_of, pushed_length, slice_get-push, slice_get_below, take-push_whole, ReadRound, IsActorWith, command_at, Hand, State, Begun, Epoch, Enter, Read, Write}
use Rattle.progress.proofs.Words.{Change, Leave, Task, UnderWay, IsDirect, is_step_of, one_memory, IsState, IsLawfulMoment, IsOthers, changes_tree, ShowsState, PaysAt, PaysForRound, PaysFrom}
use Rattle.progress.proofs.Words.{PaysReader, reader_task}
use Rattle.std.proofs.Common.{append-nil}
use Rattle.traces.specs.discipline.Disciplined.{is_entry_of, own_entries}
use Rattle.tree_law.proofs.shape.Puts.{eqb_false}
use Rattle.tree_law.proofs.trace.Others.{own_lasts}
use Rattle.progress.specs.ReaderStates.{BegunArePaid, ReadersStayPaid}
use Rattle.progress.proofs.ReaderPays.{change_is, pays_end, pays_kept, pays_more}
use Rattle.progress.proofs.ReaderRounds.{few_on, last_begun, last_cases, moment_of, next_of, round_fresh}
use Rattle.progress.proofs.rounds.Among.{others_no_step}

pub others : (actor : ℕ) (entry : Entry) → is_entry_of actor entry ≡ false → IsOthers actor entry
others actor (Begin other command) e = λ same. eqb_false actor other e (sym same)
others actor (Step other step answer reply) e = λ same. eqb_false actor other e (sym same)

-- one entry of another actor
module _ (limits : Limits) (entries : List Entry) (entry : Entry) (state : IsState limits entries) (later : IsState limits (entries ++ entry ∷ [])) (direct : IsDirect limits (entries ++ entry ∷ []))
    (actor start : ℕ) (command : Command) (other : is_entry_of actor entry ≡ false) (begun : start < length entries) where
  abbrev longer : List Entry
  longer = entries ++ entry ∷ []

  abbrev task : Task
  task = reader_task limits actor command

  not_own : is_step_of actor entry ≡ false
  not_own = others_no_step actor entry (others actor entry other)

  none : cond {A = ℕ} (is_step_of actor entry) 1 0 ≡ 0
  none = rw not_own

  from_each : (left m : ℕ) → m ≤ length longer → left ≤ one_memory limits + 3 → (m ≤ length entries → PaysFrom limits entries actor m left) → PaysFrom limits longer actor m left
  from_each left m within few pays = elim (cases_lt (length entries) m) [
    | inl past ↦ let long = pushed_length entries entry in pays_end limits longer actor m left (omega (arith, past, long)) few
    | inr le ↦ let zeroth = none in pays_kept limits entries entry actor m left left le (omega (arith, zeroth)) (pays le)
  ]

  round_on : (round : ReadRound) (hand : Hand) (old : Task) (r : Recalled) → ShowsState old hand.spares (knows entries actor) r (Read round) → (m : ℕ)
      → m ≤ length entries → PaysForRound limits entries task round m → PaysForRound limits longer task round m
  round_on round hand old r shows m within pays = either (changes_tree (memory_of limits entries) entry) changed same
    where
      lawful : IsLawfulMoment limits actor task entries round (moment_of entry round)
      lawful = record { next = next_of limits entries entry later; later = later; direct = direct; r = r; shows = shows.shows; goes = inr (record { others = others actor entry other; stays = refl }) }

      one_more : (left worth : ℕ) → left + 1 * worth ≤ left + worth + 0
      one_more left worth = omega arith

      no_more : (left worth : ℕ) → left + 0 * worth ≤ left + 0
      no_more left worth = omega arith

      with_leave : (left worth : ℕ) → left + worth + 1 ≤ left + 1 + worth
      with_leave left worth = omega arith

      changed : changes_tree (memory_of limits entries) entry ≡ true → PaysForRound limits longer task round m
      changed on = record {
        left = pays.left + one_memory limits;
        few =
            few_on limits actor task entries round (moment_of entry round) 0 1 pays.left (pays.left + one_memory limits) lawful none
            (ap (λ (b : Bool). if◌then◌else◌ {A = ℕ} b 1 0) on) (one_more pays.left (one_memory limits)) pays.few;
        pays =
            pays_more limits entries entry actor m (pays.left + 1) (pays.left + one_memory limits + 1) within (change_is (memory_of limits entries) entry on)
            not_own (with_leave pays.left (one_memory limits)) pays.pays;
      }

      same : changes_tree (memory_of limits entries) entry ≡ false → PaysForRound limits longer task round m
      same off = record {
        left = pays.left;
        few =
            few_on limits actor task entries round (moment_of entry round) 0 0 pays.left pays.left lawful none
            (ap (λ (b : Bool). if◌then◌else◌ {A = ℕ} b 1 0) off) (no_more pays.left (one_memory limits)) pays.few;
        pays = let zeroth = none in pays_kept limits entries entry actor m (pays.left + 1) (pays.left + 1) within (omega (arith, zeroth)) pays.pays;
      }

  stays_paid : (s : State) (hand : Hand) (old : Task) (r : Recalled) → ShowsState old hand.spares (knows entries actor) r s
      → ((m : ℕ) → start < m → m ≤ length entries → PaysAt limits entries task m s) → (m : ℕ) → start < m → m ≤ length longer → PaysAt limits longer task m s
  stays_paid Begun hand old r shows pays m after within = from_each (one_memory limits + 3) m within (omega arith) (pays m after)
  stays_paid Epoch hand old r shows pays m after within = from_each (one_memory limits + 3) m within (omega arith) (pays m after)
  stays_paid (Enter epoch) hand old r shows pays m after within = from_each (one_memory limits + 2) m within (omega arith) (pays m after)
  stays_paid (Read round) hand old r shows pays m after within = elim (cases_lt (length entries) m) [
    | inl past ↦ let long = pushed_length entries entry in round_fresh limits longer task round m later (omega (arith, past, long))
    | inr le ↦ round_on round hand old r shows m le (pays m after le)
  ]
  stays_paid (Write round) hand old r shows pays m after within = absurd (pays (length entries) begun (omega arith))
  stays_paid (Change now next) hand old r shows pays m after within = absurd (pays (length entries) begun (omega arith))
  stays_paid (Leave reply lacks) hand old r shows pays m after within = from_each 1 m within (omega arith) (pays m after)

pub begins_nothing : (actor : ℕ) (entry : Entry) (command : Command) → is_entry_of actor entry ≡ false → entry ≡ Begin actor command → ⊥
begins_nothing actor entry command other is =
    let own : is_entry_of actor (Begin actor command) ≡ false = ap (is_entry_of actor) (sym is) ∙ other in
    eqb_false actor actor own refl

one_other : (limits : Limits) (entries : List Entry) (entry : Entry) → IsState limits entries → IsState limits (entries ++ entry ∷ [])
    → IsDirect limits (entries ++ entry ∷ []) → (actor : ℕ) → is_entry_of actor entry ≡ false → (hand : Hand) (o : Option UnderWay)
    → IsActorWith limits actor (knows entries actor) (recalls entries actor) hand o → PaysReader limits entries actor o → PaysReader limits (entries ++ entry ∷ []) actor o
one_other limits entries entry state later direct actor other hand None shows pays = tt
one_other limits entries entry state later direct actor other hand (Some running) shows pays = λ start m command latest reader after within. elim
    (last_cases entries entry start actor command latest) [
      | inr begins ↦ absurd (begins_nothing actor entry command other begins.1)
      | inl before ↦
          stays_paid limits entries entry state later direct actor start command other (slice_get_below entries start _ before.begun) running.op.state hand
          running.op.task (recalls entries actor) shows.goes.shows.stands
          (λ k low high. pays start k command before reader low high) m after within
    ]

-- one entry after the other
module _ (limits : Limits) (actor : ℕ) (hand : Hand) (o : Option UnderWay) where
  along : (seen rest : List Entry) → own_entries actor rest ≡ [] → ((n : ℕ) → IsState limits (take n (seen ++ rest))) → ((n : ℕ) → IsDirect limits (take n (seen ++ rest)))
      → IsActorWith limits actor (knows seen actor) (recalls seen actor) hand o → PaysReader limits seen actor o → PaysReader limits (seen ++ rest) actor o
  along seen [] none states directs shows pays = rw (append-nil seen) pays
  along seen (entry ∷ rest) none states directs shows pays = elim (is_entry_of actor entry) as
      (λ t. is_entry_of actor entry ≡ t → (if t then entry ∷ own_entries actor rest else own_entries actor rest) ≡ [] → PaysReader limits (seen ++ entry ∷ rest) actor o) [
        | true ↦ λ e f. cc
        | false ↦ λ e f.
            let next : List Entry = seen ++ entry ∷ [] in
            let whole : next ++ rest ≡ seen ++ entry ∷ rest = append_assoc seen (entry ∷ []) rest in
            let state : IsState limits seen = subst (IsState limits) (take-push_whole seen (entry ∷ rest)) (states (length seen)) in
            let here : take (length next) (seen ++ entry ∷ rest) ≡ next = ap (take (length next)) (sym whole) ∙ take-push_whole next rest in
            let later : IsState limits next = subst (IsState limits) here (states (length next)) in
            let direct : IsDirect limits next = subst (IsDirect limits) here (directs (length next)) in
            let alone : own_entries actor (entry ∷ []) ≡ [] = rw e in
            let lasts = own_lasts limits actor seen next (entry ∷ [], refl, alone) in
            let shown : IsActorWith limits actor (knows next actor) (recalls next actor) hand o = rw lasts.known
            (rw lasts.recalled shows) in
            rw (← whole)
            (along next rest f (λ n. rw whole (states n))
            (λ n. rw whole (directs n)) shown
            (one_other limits seen entry state later direct actor e hand o shows pays))
      ] refl none

pub stay_paid : ReadersStayPaid
stay_paid limits actor seen run at x kept shows pays =
    rw x.1
    (along limits actor at.hand at.running seen x.0 x.2 (λ n. rw (← x.1) (kept.states n))
    (λ n. rw (← x.1) (kept.directs n)) shows pays)

-- a reader that begins
module _ (limits : Limits) (entries : List Entry) (actor : ℕ) (command : Command) (m : ℕ) (past : length entries ≤ m) where
  at_begin : (s : State) (task : Task) (hand : Hand) (k : Knowledge) (r : Recalled) → ShowsState task hand.spares k r s → k.inside ≡ false
      → is_writer task.command ≡ false → PaysAt limits entries (reader_task limits actor command) m s
  at_begin Begun task hand k r shows out reader = pays_end limits entries actor m (one_memory limits + 3) past (omega arith)
  at_begin Epoch task hand k r shows out reader = pays_end limits entries actor m (one_memory limits + 3) past (omega arith)
  at_begin (Enter epoch) task hand k r shows out reader = pays_end limits entries actor m (one_memory limits + 2) past (omega arith)
  at_begin (Read round) task hand k r shows out reader = let both : true ≡ false = sym shows.seeks.inside ∙ out in absurd (cc both)
  at_begin (Write round) task hand k r shows out reader = let both : true ≡ false = sym shows.writer ∙ reader in absurd (cc both)
  at_begin (Change now next) task hand k r shows out reader = let both : true ≡ false = sym shows.writer ∙ reader in absurd (cc both)
  at_begin (Leave reply lacks) task hand k r shows out reader = pays_end limits entries actor m 1 past (omega arith)

pub begun_paid : BegunArePaid
begun_paid limits entries actor command k r new shown out runs = by_running new.running shown runs
  where
    by_running : (o : Option UnderWay) → IsActorWith limits actor k r new.hand o → command_at o ≡ Some command → PaysReader limits (entries ++ Begin actor command ∷ []) actor o
    by_running None shows runs = tt
    by_running (Some running) shows runs = λ start m asked latest reader after within.
        let first : start ≡ length entries = last_begun entries start actor command asked latest in
        let long = pushed_length entries (Begin actor command) in
        let both : Some (Begin actor asked) ≡ Some (Begin actor command) = sym latest.begun ∙ ap (slice_get (entries ++ Begin actor command ∷ [])) first ∙
        slice_get-push entries (Begin actor command) in
        let same : asked ≡ command = cc in
        let mine : running.op.task.command ≡ asked = same_Some running.op.task.command command runs ∙ sym same in
        at_begin limits (entries ++ Begin actor command ∷ []) actor asked m (omega (arith, first, long, after)) running.op.state running.op.task new.hand k r
        shows.goes.shows.stands out (ap is_writer mine ∙ reader)
