-- Writers have met what is gone seldom still with one entry more.
use Rattle.progress.proofs.Words.{◌≡◌, ◌<◌, ◌≤◌, ◌+◌, ◌-◌, ◌*◌, ◌++◌, ℕ, suc, List, [], ◌∷◌, length, drop, Bool, true, cond, Option, None, Some, sym, ap, subst, ◌∙◌, inl, inr, arith, cases_lt}
use Rattle.progress.proofs.Words.{All, IsStrictlyIncreasing, count_by, slice_get, slice_range, Limits, is_writer, Reply, Answer, StepOf, Record, Entry, Begin, Step, Happens, Happens-kept}
use Rattle.progress.proofs.Words.{wanted_by, UnderWay, IsDirect, IsOperation, IsOwnStep, Operation, AreAmong, ChangesTree, IsLast, IsState, pushed_length, slice_get_below, PaysMeets}
use Rattle.progress.proofs.Words.{PaysWriter, MeetsSeldom, few_meets, meets_at}
use Rattle.std.proofs.lemmas.List.{take_all, take_rest}
use Rattle.traces.proofs.Pushes.{take-push}
use Rattle.tree_law.specs.TraceLaws.{Opens}
use Rattle.tree_law.proofs.trace.Owned.{operation_old, step_below, step_cases}
use Rattle.tree_law.specs.Direct.{IsDirectState}
use Rattle.progress.specs.WriterStates.{BeginsKeepWriters, IsWritersState, StepsKeepWriters}
use Rattle.linearization.specs.Whole.{most_meets}
use Rattle.progress.proofs.ReaderStates.{range_kept}
use Rattle.progress.proofs.Tallies.{one_at_most, counted_range, passes, passes_in, tally, tally_none, tally_split}
use Rattle.progress.proofs.meetings.Own.{paid_some}
use Rattle.progress.proofs.ReaderPays.{changes_kept}
use Rattle.progress.proofs.meetings.Pays.{counted}

abbrev meets_from : List Entry → ℕ → ℕ → ℕ → ℕ
meets_from entries actor m n = count_by (meets_at actor) (slice_range entries m (suc n))

-- the changes since entry m pay for what is met until entry n
abbrev Since : Limits → List Entry → ℕ → ℕ → ℕ → Type 0
Since limits entries actor m n = (changes : List ℕ) × AreAmong limits entries m n ChangesTree changes × (meets_from entries actor m n ≤ (1 + length changes) * most_meets)

-- the changes from entry m on pay for what was met since, but for the last
pub record Met (limits : Limits) (entries : List Entry) (actor m : ℕ) : Type 0 where
  pub changes : List ℕ
  pub increasing : IsStrictlyIncreasing changes
  pub each : All (λ place. (m ≤ place) × (place < length entries) × Happens limits entries place ChangesTree) changes
  pub met : count_by (meets_at actor) (drop m entries) ≤ (1 + length changes) * few_meets + 1

met_once : (limits : Limits) (entries : List Entry) (last : Entry) (actor m : ℕ) → m ≤ length entries → PaysMeets limits entries actor m 0 → Met limits (entries ++ last ∷ []) actor m
met_once limits entries last actor m within h = record {
  changes = h.changes;
  increasing = h.increasing;
  each = changes_kept limits entries last actor m h.changes h.each;
  met =
      let one = one_at_most (meets_at actor last) in
      once (count_by (meets_at actor) (drop m (entries ++ last ∷ []))) (count_by (meets_at actor) (drop m entries)) (cond (meets_at actor last) 1 0) ((1 + length h.changes) * few_meets)
      (counted limits entries last actor m within) one h.paid;
}
  where
    once : (met before own bound : ℕ) → met ≡ before + own → own ≤ 1 → before + 0 ≤ bound → met ≤ bound + 1
    once met before own bound same one few = omega (arith, same, one, few)

-- they have paid for it with the last one
since_last : (limits : Limits) (entries : List Entry) (actor m n : ℕ) → suc n ≡ length entries → Met limits entries actor m → Since limits entries actor m n
since_last limits entries actor m n whole h = (
  h.changes,
  record {
    increasing = h.increasing;
    each = λ k d lt. let g = h.each k d lt in (g.0, (let below = g.1 in omega (arith, whole, below)), g.2);
  },
  (
      let same : slice_range entries m (suc n) ≡ drop m entries = rw whole (take_rest entries m) in
      let counted : meets_from entries actor m n ≡ count_by (meets_at actor) (drop m entries) = ap (count_by (meets_at actor)) same in
      less (meets_from entries actor m n) (count_by (meets_at actor) (drop m entries)) (length h.changes) counted h.met
      ),
)
  where
    less : (met count changes : ℕ) → met ≡ count → count ≤ (1 + changes) * 21 + 1 → met ≤ (1 + changes) * 22
    less met count changes same paid = omega (arith, same, paid)

module _ (limits : Limits) (entries : List Entry) where
  -- a begin meets nothing
  first_none : (op : Operation) → IsOperation entries op → tally (passes_in (meets_at op.actor) entries) op.start 1 ≡ 0
  first_none op begun = tally_none (passes_in (meets_at op.actor) entries) op.start 1
      (λ i lt. let at : op.start + i ≡ op.start = omega (arith, lt) in ap (λ k. passes (meets_at op.actor) (slice_get entries k)) at ∙ ap (passes (meets_at op.actor)) begun)

  from_begin : (op : Operation) (n : ℕ) → IsOperation entries op → op.start < n → meets_from entries op.actor op.start n ≡ meets_from entries op.actor (suc op.start) n
  from_begin op n begun after =
      let met : ℕ → Bool = passes_in (meets_at op.actor) entries in
      let parts : suc n - op.start ≡ 1 + (suc n - suc op.start) = omega (arith, after) in
      let next : op.start + 1 ≡ suc op.start = omega arith in
      let whole : meets_from entries op.actor op.start n ≡ tally met op.start (suc n - op.start) = counted_range (meets_at op.actor) entries op.start (suc n - op.start) in
      let rest : meets_from entries op.actor (suc op.start) n ≡ tally met (suc op.start) (suc n - suc op.start) = counted_range (meets_at op.actor) entries (suc op.start) (suc n - suc op.start) in
      let split : tally met op.start (suc n - op.start) ≡ tally met op.start 1 + tally met (suc op.start) (suc n - suc op.start) =
      ap (tally met op.start) parts ∙ tally_split met op.start 1 (suc n - suc op.start) ∙ ap (λ k. tally met op.start 1 + tally met k (suc n - suc op.start)) next in
      let none = first_none op begun in
      omega (arith, whole, rest, split, none)

  -- from the entry after the begin on
  at_start : (op : Operation) (n : ℕ) → IsOperation entries op → op.start < n → Since limits entries op.actor (suc op.start) n → Since limits entries op.actor op.start n
  at_start op n begun after h = (
    h.0,
    record {
      increasing = h.1.increasing;
      each = λ k d lt. let g = h.1.each k d lt in ((let low = g.0 in omega (arith, low)), g.1, g.2);
    },
    rw (from_begin op n begun after) h.2,
  )

  -- where the changes since each later entry pay, all is so
  all_since : ((op : Operation) (m n : ℕ) → IsOperation entries op → is_writer op.command ≡ true → op.start < m → m ≤ n → IsOwnStep entries op n → Since limits entries op.actor m n)
      → MeetsSeldom limits entries
  all_since since = record {
    few = λ op n begun writer own.
        let after : op.start < n = own.2.1.begun in
        at_start op n begun after (since op (suc op.start) n begun writer (omega arith) (omega (arith, after)) own);
    since = since;
  }

module _ (limits : Limits) (entries : List Entry) (last : Entry) (kept : IsWritersState limits entries) (later : IsState limits (entries ++ last ∷ []))
    (direct : IsDirect limits (entries ++ last ∷ [])) where
  abbrev longer : List Entry
  longer = entries ++ last ∷ []

  since_kept : (op : Operation) (m n : ℕ) → IsOperation entries op → is_writer op.command ≡ true → op.start < m → m ≤ n → IsOwnStep entries op n → Since limits longer op.actor m n
  since_kept op m n begun writer after le own =
      let h = kept.seldom.since op m n begun writer after le own in
      let below : n < length entries = step_below entries last op n own in (
        h.0,
        record {
          increasing = h.1.increasing;
          each = λ k d lt. let g = h.1.each k d lt in (g.0, g.1, Happens-kept (last ∷ []) g.2);
        },
        rw (range_kept entries last m (suc n) (omega (arith, le)) (omega (arith, below))) h.2,
      )

  -- where the last entry is paid for
  pub grown : ((op : Operation) (s : StepOf Record) (x : Answer Record) (reply : Option Reply) (m : ℕ) → IsLast entries op → is_writer op.command ≡ true → last ≡ Step op.actor s x reply
      → op.start < m → m ≤ length entries → Met limits longer op.actor m) → IsWritersState limits longer
  grown paid = record {
    seldom = all_since limits longer (λ op m n begun writer after le own.
        let before : IsOperation entries op = operation_old entries last op n begun own in
        elim (step_cases entries last op n own) [
          | inl old ↦ since_kept op m n before writer after le old
          | inr at ↦
              let same : n ≡ length entries = at.0 in
              let long : length longer ≡ suc (length entries) = pushed_length entries last in
              let h = paid op at.1.0 at.1.1 at.1.2 m (record { begun = before; unended = at.2 }) writer at.1.3 after (omega (arith, le, same)) in
              since_last limits longer op.actor m n (omega (arith, same, long)) h
        ]);
    states = λ n. elim (cases_lt (length entries) n) [
      | inl past ↦ let long = pushed_length entries last in subst (IsState limits) (sym (take_all n longer (omega (arith, past, long)))) later
      | inr le ↦ subst (IsState limits) (sym (take-push entries (last ∷ []) n le)) (kept.states n)
    ];
    directs = λ n. elim (cases_lt (length entries) n) [
      | inl past ↦ let long = pushed_length entries last in subst (IsDirect limits) (sym (take_all n longer (omega (arith, past, long)))) direct
      | inr le ↦ subst (IsDirect limits) (sym (take-push entries (last ∷ []) n le)) (kept.directs n)
    ];
  }

pub opens : Opens IsState → Opens IsDirectState → Opens IsWritersState
opens states directs limits = record {
  seldom = all_since limits [] (λ op m n begun writer after le own. absurd (let below = slice_get_below [] n _ own.2.1.entry in omega (arith, below)));
  states = λ n. subst (IsState limits) (sym (take_all n [] (omega arith))) (states limits);
  directs = λ n. subst (IsDirect limits) (sym (take_all n [] (omega arith))) (directs limits).direct;
}

pub begins_keep : BeginsKeepWriters
begins_keep limits entries actor command kept later direct = grown limits entries (Begin actor command) kept later direct (λ op s x reply m latest writer is after within. absurd (cc is))

-- A writer that is paid for has met little, and by one step more it meets one thing more at most.
pub steps_keep : StepsKeepWriters
steps_keep limits entries actor step answer reply old kept pays wants later direct =
    grown limits entries (Step actor step answer reply) kept later direct
    (λ op s x given m latest writer is after within. by_running old.running pays wants op s x given m latest writer is after within)
  where
    by_running : (o : Option UnderWay) → PaysWriter limits entries actor o → wanted_by o ≡ Some step
        → (op : Operation) (s : StepOf Record) (x : Answer Record) (given : Option Reply) (m : ℕ) → IsLast entries op → is_writer op.command ≡ true
        → Step actor step answer reply ≡ Step op.actor s x given → op.start < m → m ≤ length entries → Met limits (entries ++ Step actor step answer reply ∷ []) op.actor m
    by_running None pays wants op s x given m latest writer is after within = absurd (cc wants)
    by_running (Some running) pays wants op s x given m latest writer is after within =
        let mine : actor ≡ op.actor = cc in
        let theirs : PaysWriter limits entries op.actor (Some running) = rw (← mine) pays in
        met_once limits entries (Step actor step answer reply) op.actor m within (paid_some limits entries op.actor m running.op.state (theirs op.start m op.command latest writer after within))
