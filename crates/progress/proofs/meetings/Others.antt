-- A writer is paid for whatever others do, and where it begins.
use Rattle.progress.proofs.Words.{◌≡◌, ◌<◌, ◌≤◌, ◌++◌, ℕ, List, [], ◌∷◌, length, take, Bool, true, false, cond, Option, None, Some, refl, sym, ap, subst, ◌∙◌, inl, inr, arith, append_assoc}
use Rattle.progress.proofs.Words.{◌&&◌, ◌==◌, if◌then◌else◌, slice_get, cases_lt, eqb_tells, same_Some, Limits, is_writer, Entry, Begin, Step, Knowledge, knows, Recalled, recalls}
use Rattle.progress.proofs.Words.{pushed_length, slice_get-push, slice_get_below, take-push_whole, IsActorWith, command_at, Hand, State, Read, Write, Change, Leave, Task, UnderWay, IsDirect}
use Rattle.progress.proofs.Words.{IsState, ShowsState, PaysForWriter, PaysMeets, PaysWriter, InRound, IsLawfulWriting, WriterState, meets, meets_at}
use Rattle.std.proofs.Common.{append-nil}
use Rattle.traces.specs.discipline.Disciplined.{is_entry_of, own_entries}
use Rattle.tree_law.proofs.shape.Puts.{eqb_false}
use Rattle.tree_law.proofs.trace.Others.{own_lasts}
use Rattle.progress.specs.WriterStates.{BegunWritersArePaid, MeetsAt, WritersStayPaid}
use Rattle.progress.specs.WritersAmong.{ShowsWriter}
use Rattle.progress.proofs.ReaderOthers.{begins_nothing, others}
use Rattle.progress.proofs.ReaderRounds.{last_begun, last_cases, next_of}
use Rattle.progress.proofs.meetings.Own.{moment_of}
use Rattle.progress.proofs.meetings.Pays.{goes_on, pays_end, pays_kept, writer_fresh}
use Rattle.progress.proofs.meetings.Turns.{change_at}

-- what another actor does is no meeting of this one
pub others_meet : (actor : ℕ) (entry : Entry) → is_entry_of actor entry ≡ false → meets_at actor entry ≡ false
others_meet actor (Begin other command) e = refl
others_meet actor (Step other step answer reply) e =
    let apart : (other == actor) ≡ false = elim (eqb_tells other actor) [ inl same ↦ absurd (eqb_false actor other e (sym same.1)) | inr apart ↦ apart.0 ] in
    ap (λ (b : Bool). b && meets step answer) apart

-- one entry of another actor
module _ (limits : Limits) (entries : List Entry) (entry : Entry) (later : IsState limits (entries ++ entry ∷ [])) (direct : IsDirect limits (entries ++ entry ∷ []))
    (actor start : ℕ) (other : is_entry_of actor entry ≡ false) (begun : start < length entries) where
  abbrev longer : List Entry
  longer = entries ++ entry ∷ []

  from_each : (left m : ℕ) → m ≤ length longer → left ≤ 21 → (m ≤ length entries → PaysMeets limits entries actor m left) → PaysMeets limits longer actor m left
  from_each left m within few pays = elim (cases_lt (length entries) m) [
    | inl past ↦ let long = pushed_length entries entry in pays_end limits longer actor m left (omega (arith, past, long)) few
    | inr le ↦
        let none : cond {A = ℕ} (meets_at actor entry) 1 0 ≡ 0 = rw (others_meet actor entry other) in
        pays_kept limits entries entry actor m left left le (omega (arith, none)) (pays le)
  ]

  stands_on : (writer : WriterState) (r : Recalled) → ShowsWriter writer (knows entries actor) r
      → ((m : ℕ) → start < m → m ≤ length entries → PaysForWriter limits entries actor writer m) → (m : ℕ) → start < m → m ≤ length longer → PaysForWriter limits longer actor writer m
  stands_on writer r shows pays m after within = elim (cases_lt (length entries) m) [
    | inl past ↦
        let long = pushed_length entries entry in
        writer_fresh limits longer actor writer m later (pays_end limits longer actor m 21 (omega (arith, past, long)) (omega arith))
    | inr le ↦ goes_on limits entries actor writer (moment_of entry writer) m lawful le (pays m after le)
  ]
    where
      lawful : IsLawfulWriting limits actor entries writer (moment_of entry writer)
      lawful = record { next = next_of limits entries entry later; later = later; direct = direct; r = r; shows = shows; goes = inr (record { others = others actor entry other; stays = refl }) }

  pub stays_paid : (s : State) (hand : Hand) (task : Task) (r : Recalled) → ShowsState task hand.spares (knows entries actor) r s
      → ((m : ℕ) → start < m → m ≤ length entries → MeetsAt limits entries actor m s) → (m : ℕ) → start < m → m ≤ length longer → MeetsAt limits longer actor m s
  stays_paid (Read round) hand task r shows pays m after within = absurd (pays (length entries) begun (omega arith))
  stays_paid (Write round) hand task r shows pays m after within = stands_on (InRound round) r shows.shows pays m after within
  stays_paid (Change now next) hand task r shows pays m after within = stands_on (change_at now) r tt pays m after within
  stays_paid (Leave reply lacks) hand task r shows pays m after within = from_each 0 m within (omega arith) (pays m after)
  stays_paid state hand task r shows pays m after within = from_each 21 m within (omega arith) (pays m after)

one_other : (limits : Limits) (entries : List Entry) (entry : Entry) → IsState limits (entries ++ entry ∷ [])
    → IsDirect limits (entries ++ entry ∷ []) → (actor : ℕ) → is_entry_of actor entry ≡ false → (hand : Hand) (o : Option UnderWay)
    → IsActorWith limits actor (knows entries actor) (recalls entries actor) hand o → PaysWriter limits entries actor o → PaysWriter limits (entries ++ entry ∷ []) actor o
one_other limits entries entry later direct actor other hand None shows pays = tt
one_other limits entries entry later direct actor other hand (Some running) shows pays = λ start m command latest writer after within. elim
    (last_cases entries entry start actor command latest) [
      | inr begins ↦ absurd (begins_nothing actor entry command other begins.1)
      | inl before ↦
          stays_paid limits entries entry later direct actor start other (slice_get_below entries start _ before.begun) running.op.state hand
          running.op.task (recalls entries actor) shows.goes.shows.stands
          (λ k low high. pays start k command before writer low high) m after within
    ]

-- one entry after the other
module _ (limits : Limits) (actor : ℕ) (hand : Hand) (o : Option UnderWay) where
  along : (seen rest : List Entry) → own_entries actor rest ≡ [] → ((n : ℕ) → IsState limits (take n (seen ++ rest))) → ((n : ℕ) → IsDirect limits (take n (seen ++ rest)))
      → IsActorWith limits actor (knows seen actor) (recalls seen actor) hand o → PaysWriter limits seen actor o → PaysWriter limits (seen ++ rest) actor o
  along seen [] none states directs shows pays = rw (append-nil seen) pays
  along seen (entry ∷ rest) none states directs shows pays = elim (is_entry_of actor entry) as
      (λ t. is_entry_of actor entry ≡ t → (if t then entry ∷ own_entries actor rest else own_entries actor rest) ≡ [] → PaysWriter limits (seen ++ entry ∷ rest) actor o) [
        | true ↦ λ e f. cc
        | false ↦ λ e f.
            let next : List Entry = seen ++ entry ∷ [] in
            let whole : next ++ rest ≡ seen ++ entry ∷ rest = append_assoc seen (entry ∷ []) rest in
            let here : take (length next) (seen ++ entry ∷ rest) ≡ next = ap (take (length next)) (sym whole) ∙ take-push_whole next rest in
            let later : IsState limits next = subst (IsState limits) here (states (length next)) in
            let direct : IsDirect limits next = subst (IsDirect limits) here (directs (length next)) in
            let alone : own_entries actor (entry ∷ []) ≡ [] = rw e in
            let lasts = own_lasts limits actor seen next (entry ∷ [], refl, alone) in
            let shown : IsActorWith limits actor (knows next actor) (recalls next actor) hand o = rw lasts.known
            (rw lasts.recalled shows) in
            rw (← whole)
            (along next rest f (λ n. rw whole (states n))
            (λ n. rw whole (directs n)) shown
            (one_other limits seen entry later direct actor e hand o shows pays))
      ] refl none

pub writers_stay_paid : WritersStayPaid
writers_stay_paid limits actor seen run at x kept shows pays =
    rw x.1
    (along limits actor at.hand at.running seen x.0 x.2 (λ n. rw (← x.1) (kept.states n))
    (λ n. rw (← x.1) (kept.directs n)) shows pays)

-- a writer that begins
module _ (limits : Limits) (entries : List Entry) (actor : ℕ) (m : ℕ) (past : length entries ≤ m) where
  at_begin : (s : State) (task : Task) (hand : Hand) (k : Knowledge) (r : Recalled) → ShowsState task hand.spares k r s → k.inside ≡ false
      → is_writer task.command ≡ true → MeetsAt limits entries actor m s
  at_begin (Read round) task hand k r shows out writer = let both : true ≡ false = sym shows.seeks.inside ∙ out in absurd (cc both)
  at_begin (Write round) task hand k r shows out writer = let both : true ≡ false = sym shows.seeks.inside ∙ out in absurd (cc both)
  at_begin (Change now next) task hand k r shows out writer = let both : true ≡ false = sym shows.shows.may.inside ∙ out in absurd (cc both)
  at_begin (Leave reply lacks) task hand k r shows out writer = pays_end limits entries actor m 0 past (omega arith)
  at_begin state task hand k r shows out writer = pays_end limits entries actor m 21 past (omega arith)

pub begun_writers_paid : BegunWritersArePaid
begun_writers_paid limits entries actor command k r new shown out runs = by_running new.running shown runs
  where
    by_running : (o : Option UnderWay) → IsActorWith limits actor k r new.hand o → command_at o ≡ Some command → PaysWriter limits (entries ++ Begin actor command ∷ []) actor o
    by_running None shows runs = tt
    by_running (Some running) shows runs = λ start m asked latest writer after within.
        let first : start ≡ length entries = last_begun entries start actor command asked latest in
        let long = pushed_length entries (Begin actor command) in
        let both : Some (Begin actor asked) ≡ Some (Begin actor command) = sym latest.begun ∙ ap (slice_get (entries ++ Begin actor command ∷ [])) first ∙
        slice_get-push entries (Begin actor command) in
        let same : asked ≡ command = cc in
        let mine : running.op.task.command ≡ asked = same_Some running.op.task.command command runs ∙ sym same in
        at_begin limits (entries ++ Begin actor command ∷ []) actor m (omega (arith, first, long, after)) running.op.state running.op.task new.hand k r
        shows.goes.shows.stands out (ap is_writer mine ∙ writer)
