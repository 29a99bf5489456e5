-- Readers have taken few steps still with one entry more.
use Rattle.progress.proofs.Words.{◌≡◌, ◌<◌, ◌≤◌, ◌+◌, ◌-◌, ◌*◌, ◌++◌, ℕ, suc, List, [], ◌∷◌, length, drop, take, Bool, true, false, Option, None, Some, sym, ap, subst, ◌∙◌, inl, inr, arith}
use Rattle.progress.proofs.Words.{cases_lt, count_by, slice_get, slice_range, Limits, is_writer, Reply, Answer, Whether, StepOf, Exchange, Record, Entry, Begin, Step, Happens-kept, wanted_by}
use Rattle.progress.proofs.Words.{State, Begun, Epoch, Enter, Read, Write, Change, Leave, Task, UnderWay, IsDirect, is_step_of, IsOperation, IsOwnStep, Operation, AreAmong, ChangesTree}
use Rattle.progress.proofs.Words.{steps_from, RunsAlone, IsLast, IsState, drop-append-le, pushed_length, slice_get_below, ReadersEnd, one_memory, PaysAt, PaysFrom, PaysReader, reader_task}
use Rattle.std.proofs.lemmas.List.{length-drop, take-append-le, take_all, take_rest}
use Rattle.traces.proofs.Pushes.{take-push}
use Rattle.linearization.specs.Readers.{IsReading}
use Rattle.tree_law.specs.TraceLaws.{Opens}
use Rattle.tree_law.proofs.trace.Owned.{operation_old, step_below, step_cases}
use Rattle.tree_law.specs.Direct.{IsDirectState}
use Rattle.progress.specs.ReaderStates.{BeginsKeepReaders, IsReadersState, StepsKeepReaders}
use Rattle.progress.proofs.ReaderPays.{pays_kept}
use Rattle.progress.proofs.Tallies.{counted_range, one_at_most, passes, passes_in, tally, tally_none, tally_split}

-- a part of the shorter list is the same part of the longer one
pub range_kept : {X : Type 0} (xs : List X) (x : X) (a b : ℕ) → a ≤ b → b ≤ length xs → slice_range (xs ++ x ∷ []) a b ≡ slice_range xs a b
range_kept xs x a b le within =
    let rest : length (drop a xs) ≡ length xs - a = length-drop a xs in
    ap (take (b - a)) (drop-append-le a xs (x ∷ []) (omega arith)) ∙ take-append-le (b - a) (drop a xs) (x ∷ []) (omega arith)

-- the changes since entry m pay for the steps until entry n
abbrev Since : Limits → List Entry → ℕ → ℕ → ℕ → Type 0
Since limits entries actor m n = (changes : List ℕ) × AreAmong limits entries m n ChangesTree changes × (steps_from entries actor m n ≤ one_memory limits * (length changes + 1) + 3)

-- what pays for a step more has paid for the last one
since_last : (limits : Limits) (entries : List Entry) (actor m n left : ℕ) → suc n ≡ length entries → PaysFrom limits entries actor m left → Since limits entries actor m n
since_last limits entries actor m n left whole h = (
  h.changes,
  record {
    increasing = h.increasing;
    each = λ k d lt. let g = h.each k d lt in (g.0, (let below = g.1 in omega (arith, whole, below)), g.2);
  },
  (
      let same : slice_range entries m (suc n) ≡ drop m entries = rw whole (take_rest entries m) in
      let counted : steps_from entries actor m n ≡ count_by (is_step_of actor) (drop m entries) = ap (count_by (is_step_of actor)) same in
      less (steps_from entries actor m n) (count_by (is_step_of actor) (drop m entries)) left (one_memory limits * (length h.changes + 1) + 3) counted h.paid
      ),
)
  where
    less : (steps count left bound : ℕ) → steps ≡ count → count + left ≤ bound → steps ≤ bound
    less steps count left bound same paid = omega (arith, same, paid)

module _ (limits : Limits) (entries : List Entry) where
  -- a begin is no step
  first_none : (op : Operation) → IsOperation entries op → tally (passes_in (is_step_of op.actor) entries) op.start 1 ≡ 0
  first_none op begun = tally_none (passes_in (is_step_of op.actor) entries) op.start 1
      (λ i lt. let at : op.start + i ≡ op.start = omega (arith, lt) in ap (λ k. passes (is_step_of op.actor) (slice_get entries k)) at ∙ ap (passes (is_step_of op.actor)) begun)

  from_begin : (op : Operation) (n : ℕ) → IsOperation entries op → op.start < n → steps_from entries op.actor op.start n ≡ steps_from entries op.actor (suc op.start) n
  from_begin op n begun after =
      let steps : ℕ → Bool = passes_in (is_step_of op.actor) entries in
      let parts : suc n - op.start ≡ 1 + (suc n - suc op.start) = omega (arith, after) in
      let next : op.start + 1 ≡ suc op.start = omega arith in
      let whole : steps_from entries op.actor op.start n ≡ tally steps op.start (suc n - op.start) = counted_range (is_step_of op.actor) entries op.start (suc n - op.start) in
      let rest : steps_from entries op.actor (suc op.start) n ≡ tally steps (suc op.start) (suc n - suc op.start) = counted_range (is_step_of op.actor) entries (suc op.start) (suc n - suc op.start) in
      let split : tally steps op.start (suc n - op.start) ≡ tally steps op.start 1 + tally steps (suc op.start) (suc n - suc op.start) =
      ap (tally steps op.start) parts ∙ tally_split steps op.start 1 (suc n - suc op.start) ∙ ap (λ k. tally steps op.start 1 + tally steps k (suc n - suc op.start)) next in
      let none = first_none op begun in
      omega (arith, whole, rest, split, none)

  -- a reader that runs alone changes nothing
  none_alone : IsDirect limits entries → (op : Operation) (m n : ℕ) → IsOperation entries op → is_writer op.command ≡ false → op.start < m → IsOwnStep entries op n → RunsAlone entries op.actor m n
      → (changes : List ℕ) → AreAmong limits entries m n ChangesTree changes → steps_from entries op.actor m n ≤ one_memory limits * (length changes + 1) + 3
      → steps_from entries op.actor m n ≤ one_memory limits + 3
  none_alone direct op m n begun reader after own alone [] among few = as_one (steps_from entries op.actor m n) (one_memory limits) few
    where
      as_one : (steps worth : ℕ) → steps ≤ worth * (0 + 1) + 3 → steps ≤ worth + 3
      as_one steps worth few = omega (arith, few)
  none_alone direct op m n begun reader after own alone (place ∷ changes) among few =
      let p = among.each 0 0 (omega arith) in
      let low : m ≤ place = p.0 in
      let high : place ≤ n = p.1 in
      let a = alone place low high in
      let reads : IsReading a.0 = direct.reads op place a.0 a.1 begun reader
      (a.2.0, record { begun = omega (arith, after, low); entry = a.2.1; not_ended = λ later c start before. own.2.1.not_ended later c start (omega (arith, before, high)) })
      in
      let c = p.2.holds in
      let both : Some (Step op.actor a.0 a.1 a.2.0) ≡ Some (Step c.0 (Exchange c.1 c.2 c.3) (Whether true) c.5.0.0) = sym a.2.1 ∙ p.2.at ∙ ap Some c.5.0.1 in
      let same : a.0 ≡ Exchange c.1 c.2 c.3 = cc in
      let none : IsReading (Exchange c.1 c.2 c.3) = rw same at reads in
      absurd none

  -- where the changes since each later entry pay, all is so
  all_since : IsDirect limits entries
      → ((op : Operation) (m n : ℕ) → IsOperation entries op → is_writer op.command ≡ false → op.start < m → m ≤ n → IsOwnStep entries op n → Since limits entries op.actor m n)
      → ReadersEnd limits entries
  all_since direct since = record {
    few = λ op n begun reader own.
        let after : op.start < n = own.2.1.begun in
        let h = since op (suc op.start) n begun reader (omega arith) (omega (arith, after)) own in (
          h.0,
          record {
            increasing = h.1.increasing;
            each = λ k d lt. let g = h.1.each k d lt in ((let low = g.0 in omega (arith, low)), g.1, g.2);
          },
          rw (from_begin op n begun after) h.2,
        );
    since = since;
    alone = λ op m n begun reader after le own alone. let h = since op m n begun reader after le own in none_alone direct op m n begun reader after own alone h.0 h.1 h.2;
  }

module _ (limits : Limits) (entries : List Entry) (last : Entry) (kept : IsReadersState limits entries) (later : IsState limits (entries ++ last ∷ []))
    (direct : IsDirect limits (entries ++ last ∷ [])) where
  abbrev longer : List Entry
  longer = entries ++ last ∷ []

  since_kept : (op : Operation) (m n : ℕ) → IsOperation entries op → is_writer op.command ≡ false → op.start < m → m ≤ n → IsOwnStep entries op n → Since limits longer op.actor m n
  since_kept op m n begun reader after le own =
      let h = kept.ends.since op m n begun reader after le own in
      let below : n < length entries = step_below entries last op n own in (
        h.0,
        record {
          increasing = h.1.increasing;
          each = λ k d lt. let g = h.1.each k d lt in (g.0, g.1, Happens-kept (last ∷ []) g.2);
        },
        rw (range_kept entries last m (suc n) (omega (arith, le)) (omega (arith, below))) h.2,
      )

  -- where the last entry is paid for
  pub grown : ((op : Operation) (s : StepOf Record) (x : Answer Record) (reply : Option Reply) (m : ℕ) → IsLast entries op → is_writer op.command ≡ false → last
      ≡ Step op.actor s x reply → op.start < m → m ≤ length entries
      → (left : ℕ) × PaysFrom limits longer op.actor m left) → IsReadersState limits longer
  grown paid = record {
    ends = all_since limits longer direct (λ op m n begun reader after le own.
        let before : IsOperation entries op = operation_old entries last op n begun own in
        elim (step_cases entries last op n own) [
          | inl old ↦ since_kept op m n before reader after le old
          | inr at ↦
              let same : n ≡ length entries = at.0 in
              let long : length longer ≡ suc (length entries) = pushed_length entries last in
              let h = paid op at.1.0 at.1.1 at.1.2 m (record { begun = before; unended = at.2 }) reader at.1.3 after (omega (arith, le, same)) in
              since_last limits longer op.actor m n h.0 (omega (arith, same, long)) h.1
        ]);
    states = λ n. elim (cases_lt (length entries) n) [
      | inl past ↦ let long = pushed_length entries last in subst (IsState limits) (sym (take_all n longer (omega (arith, past, long)))) later
      | inr le ↦ subst (IsState limits) (sym (take-push entries (last ∷ []) n le)) (kept.states n)
    ];
    directs = λ n. elim (cases_lt (length entries) n) [
      | inl past ↦ let long = pushed_length entries last in subst (IsDirect limits) (sym (take_all n longer (omega (arith, past, long)))) direct
      | inr le ↦ subst (IsDirect limits) (sym (take-push entries (last ∷ []) n le)) (kept.directs n)
    ];
  }

-- a reader that is paid for has a step left
some_left : (limits : Limits) (entries : List Entry) (task : Task) (m : ℕ) (state : State) → PaysAt limits entries task m state → (left : ℕ) × (0 < left) × PaysFrom limits entries task.actor m left
some_left limits entries task m Begun pays = (one_memory limits + 3, omega arith, pays)
some_left limits entries task m Epoch pays = (one_memory limits + 3, omega arith, pays)
some_left limits entries task m (Enter epoch) pays = (one_memory limits + 2, omega arith, pays)
some_left limits entries task m (Read round) pays = (pays.left + 1, omega arith, pays.pays)
some_left limits entries task m (Write round) pays = absurd pays
some_left limits entries task m (Change now then) pays = absurd pays
some_left limits entries task m (Leave reply lacks) pays = (1, omega arith, pays)

pub opens : Opens IsState → Opens IsDirectState → Opens IsReadersState
opens states directs limits = record {
  ends = all_since limits [] (directs limits).direct (λ op m n begun reader after le own. absurd (let below = slice_get_below [] n _ own.2.1.entry in omega (arith, below)));
  states = λ n. subst (IsState limits) (sym (take_all n [] (omega arith))) (states limits);
  directs = λ n. subst (IsDirect limits) (sym (take_all n [] (omega arith))) (directs limits).direct;
}

pub begins_keep : BeginsKeepReaders
begins_keep limits entries actor command kept later direct = grown limits entries (Begin actor command) kept later direct (λ op s x reply m latest reader is after within. absurd (cc is))

pub steps_keep : StepsKeepReaders
steps_keep limits entries actor step answer reply old kept pays wants later direct =
    grown limits entries (Step actor step answer reply) kept later direct
    (λ op s x given m latest reader is after within. by_running old.running pays wants op s x given m latest reader is after within)
  where
    by_running : (o : Option UnderWay) → PaysReader limits entries actor o → wanted_by o ≡ Some step
        → (op : Operation) (s : StepOf Record) (x : Answer Record) (given : Option Reply) (m : ℕ) → IsLast entries op → is_writer op.command ≡ false
        → Step actor step answer reply ≡ Step op.actor s x given → op.start < m → m ≤ length entries → (left : ℕ) × PaysFrom limits (entries ++ Step actor step answer reply ∷ []) op.actor m left
    by_running None pays wants op s x given m latest reader is after within = absurd (cc wants)
    by_running (Some running) pays wants op s x given m latest reader is after within =
        let mine : actor ≡ op.actor = cc in
        let theirs : PaysReader limits entries op.actor (Some running) = rw (← mine) pays in
        let h = some_left limits entries (reader_task limits op.actor op.command) m running.op.state (theirs op.start m op.command latest reader after within) in
        let one = one_at_most (is_step_of op.actor (Step actor step answer reply)) in
        let some = h.1 in
        (0, pays_kept limits entries (Step actor step answer reply) op.actor m h.0 0 within (omega (arith, one, some)) h.2)
