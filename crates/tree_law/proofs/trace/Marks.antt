-- One more entry, marked or not.
use Rattle.tree_law.proofs.Words.{false, [], ap, refl, cond, Option, suc, None, List, true, inl, length, ◌++◌, inr, ◌∷◌, subst, sym, ℕ, ◌≡◌, Bool, zero, ◌∙◌, ◌<◌, arith, Some, take, cases_lt}
use Rattle.tree_law.proofs.Words.{MatchOption, Update, Command, Reply, Limits, Answer, StepOf, Record, slice_get_below, slice_get_kept, slice_get-push, take-push, take-push_whole, memory_at-push}
use Rattle.tree_law.proofs.Words.{memory_at, command_of, memory_of, Entry, Begin, Step, log_at-push, IsOperation, Operation, Finishes, IsOwnStep, log_at, log_of, IsPoint, HasMapOf, IsQuiet, Tells}
use Rattle.tree_law.proofs.Words.{operation_from, IsUnended, IsAnsweredBy, IsMarked, HasFound}
use Rattle.tree_law.specs.State.{Justifies}
use Rattle.tree_law.proofs.trace.Searches.{held_back_kept, nothing_free_kept}
use Rattle.tree_law.proofs.trace.Owned.{pushed_length, point_below, point_last, own_step_kept, own_cases, step_cases, step_below, own_new, unended_kept, operation_old}

pub take_whole : {X : Type 0} (xs : List X) (n : ℕ) → n ≡ length xs → take n xs ≡ xs
take_whole [] zero e = refl
take_whole [] (suc n) e = refl
take_whole (x ∷ xs) zero e = absurd (omega arith)
take_whole (x ∷ xs) (suc n) e = rw (take_whole xs n (omega arith))

module _ (entries : List Entry) (points : List Bool) (last : Entry) (mark : Bool) (beside : length points ≡ length entries) where
  abbrev entries' : List Entry
  entries' = entries ++ last ∷ []

  abbrev points' : List Bool
  points' = points ++ mark ∷ []

  log_same : (op : Operation) (m : ℕ) → IsOwnStep entries op m → log_at entries' points' m ≡ log_at entries points m
  log_same op m own = let lt : m < length entries = step_below entries last op m own in log_at-push entries points (last ∷ []) (mark ∷ []) m beside (omega arith)

  memory_same : (limits : Limits) (op : Operation) (m : ℕ) → IsOwnStep entries op m → memory_at limits entries' m ≡ memory_at limits entries m
  memory_same limits op m own = let lt : m < length entries = step_below entries last op m own in memory_at-push limits entries (last ∷ []) m (omega arith)

  justifies_kept : (limits : Limits) (op : Operation) (reply : Reply) → Justifies limits entries points op reply → Justifies limits entries' points' op reply
  justifies_kept limits op reply h = (h.0, own_step_kept entries last op h.0 h.1, slice_get_kept points (mark ∷ []) h.0 true h.2, rw (memory_same limits op h.0 h.1, log_same op h.0 h.1) h.3)

  -- what an operation has found without a point it has found for is_tree
  finds_kept : (limits : Limits) (op : Operation) (reply : Reply) → HasFound limits entries op reply → HasFound limits entries' op reply
  finds_kept limits op reply (inl h) = inl (
    h.0,
    record {
      key = h.1.key;
      asks = h.1.asks;
      step = h.1.step;
      own = own_step_kept entries last op h.1.step h.1.own;
      tidy = record {
        leaf = h.1.tidy.leaf;
        stands = rw (memory_same limits op h.1.step h.1.own) h.1.tidy.stands;
        base = h.1.tidy.base;
        alone = h.1.tidy.alone;
        few = h.1.tidy.few;
      };
      back = λ other small. held_back_kept entries last limits op h.1.step h.1.tidy.leaf (h.1.back other small);
    },
  )
  finds_kept limits op reply (inr h) = inr (h.0, h.1, nothing_free_kept entries last limits op h.2)

  point_old : (op : Operation) (m : ℕ) → IsOwnStep entries op m → IsPoint points' m → IsPoint points m
  point_old op m own p = let lt : m < length entries = step_below entries last op m own in point_below points mark m (omega arith) p

  -- an answer without a point stays where the new step is no mark of its operation
  answers_kept : (limits : Limits) (op : Operation) (reply : Reply) → IsOperation entries op → (mark ≡ true → IsOwnStep entries' op (length entries) → ⊥)
      → IsAnsweredBy limits entries points op reply → IsAnsweredBy limits entries' points' op reply
  answers_kept limits op reply is never (inl h) = inl (justifies_kept limits op reply h)
  answers_kept limits op reply is never (inr h) = inr (record {
    unmarked = λ m own p. elim (step_cases entries last op m own) [
      | inl own' ↦ h.unmarked m own' (point_old op m own' p)
      | inr at ↦ never (point_last points mark m (at.0 ∙ sym beside) p) (rw at.0 at own)
    ];
    finds = finds_kept limits op reply h.finds;
  })

  pub marked_push : (limits : Limits) → IsMarked limits entries points
      → (mark ≡ true → (op : Operation) × IsOperation entries op × IsOwnStep entries' op (length entries))
      → (mark ≡ true → (op : Operation) → IsOperation entries op → IsOwnStep entries' op (length entries) → (m : ℕ) → IsOwnStep entries op m → IsPoint points m → ⊥)
      → ((op : Operation) (step : StepOf Record) (answer : Answer Record) (reply : Reply) → IsOperation entries op → last ≡ Step op.actor step answer
      (Some reply) → IsUnended entries op.start op.actor → IsAnsweredBy limits entries points op reply × (mark ≡ false))
      → (mark ≡ true → (op : Operation) → IsOperation entries op → IsOwnStep entries' op (length entries) → (n : ℕ) (reply : Reply) → Finishes entries op n reply → ⊥)
      → IsMarked limits entries' points'
  marked_push limits old new fresh replied unfinished = record {
    beside = pushed_length points mark ∙ ap suc beside ∙ sym (pushed_length entries last);
    own = λ n e. elim (cases_lt n (length points)) [
      | inl lt ↦ let o = old.own n (point_below points mark n lt e) in (o.0, slice_get_kept entries (last ∷ []) o.0.start _ o.1, own_step_kept entries last o.0 n o.2)
      | inr le ↦
          let below : n < length points' = slice_get_below points' n true e in
          let long : length points' ≡ suc (length points) = pushed_length points mark in
          let at : n ≡ length points = omega arith in
          let o = new (point_last points mark n at e) in
          (o.0, slice_get_kept entries (last ∷ []) o.0.start _ o.1, subst (IsOwnStep entries' o.0) (sym (at ∙ beside)) o.2)
    ];
    one = λ op m n is om on pm pn. elim (step_cases entries last op m om) [
      | inl om' ↦ elim (step_cases entries last op n on) [
        | inl on' ↦ old.one op m n (operation_old entries last op m is om) om' on' (point_old op m om' pm) (point_old op n on' pn)
        | inr at ↦ absurd (fresh (point_last points mark n (at.0 ∙ sym beside) pn) op (operation_old entries last op m is om) (rw at.0 at on) m om' (point_old op m om' pm))
      ]
      | inr at ↦ elim (step_cases entries last op n on) [
        | inl on' ↦ absurd (fresh (point_last points mark m (at.0 ∙ sym beside) pm) op (operation_old entries last op m is om) (rw at.0 at om) n on' (point_old op n on' pn))
        | inr at' ↦ at.0 ∙ sym at'.0
      ]
    ];
    answered = λ op n reply is ends.
        let was : IsOperation entries op = operation_old entries last op n is (ends.0, ends.1, (Some reply, ends.2)) in
        elim (own_cases entries last op n ends.0 ends.1 (Some reply) ends.2) [
          | inl own ↦ answers_kept limits op reply was (λ e at. unfinished e op was at n reply (ends.0, ends.1, own)) (old.answered op n reply was (ends.0, ends.1, own))
          | inr at ↦ let h = replied op ends.0 ends.1 reply was at.1 at.2 in answers_kept limits op reply was (λ e own. let f = h.1 in absurd (cc)) h.0
        ];
  }

  -- what is told of an actor whose entry this isn't
  pub tells_other : (b : ℕ) (asked : Command) (point : Option (List Update)) (logs : List (List Update)) → ((c : Command) → last ≡ Begin b c → ⊥)
      → ((step : StepOf Record) (answer : Answer Record) (reply : Option Reply) → last ≡ Step b step answer reply → ⊥) → Tells entries points b asked point logs
      → Tells entries' points' b asked point logs
  tells_other b asked point logs no_begin no_step t =
      let op : Operation = operation_from t.start b asked in
      record {
        start = t.start;
        begins = slice_get_kept entries (last ∷ []) t.start _ t.begins;
        unended = unended_kept entries last t.start b t.unended no_begin;
        logs_at = λ l among. let h = t.logs_at l among in logs_kept h.0 h.1 h.2 h.3;
        point_at = point_kept point t.point_at;
      }
    where
      logs_kept : {l : List Update} (m : ℕ) → IsOwnStep entries (operation_from t.start b asked) m → log_at entries points m ≡ l → command_of (take m entries) b ≡ Some asked
          → (n : ℕ) × IsOwnStep entries' (operation_from t.start b asked) n × (log_at entries' points' n ≡ l) × (command_of (take n entries') b ≡ Some asked)
      logs_kept m own same asks =
          let lt : m < length entries = step_below entries last (operation_from t.start b asked) m own in
          (m, own_step_kept entries last (operation_from t.start b asked) m own, log_same (operation_from t.start b asked) m own ∙ same, rw (take-push entries (last ∷ []) m (omega arith)) asks)

      point_kept : (o : Option (List Update))
          → MatchOption o ((m : ℕ) → IsOwnStep entries (operation_from t.start b asked) m → IsPoint points m → ⊥)
          (λ l. (m : ℕ) × IsOwnStep entries (operation_from t.start b asked) m × IsPoint points m × (log_at entries points m ≡ l))
          → MatchOption o ((m : ℕ) → IsOwnStep entries' (operation_from t.start b asked) m → IsPoint points' m → ⊥)
          (λ l. (m : ℕ) × IsOwnStep entries' (operation_from t.start b asked) m × IsPoint points' m × (log_at entries' points' m ≡ l))
      point_kept None h = λ m own p. elim (step_cases entries last (operation_from t.start b asked) m own) [
        | inl own' ↦ h m own' (point_old (operation_from t.start b asked) m own' p)
        | inr at ↦ no_step at.1.0 at.1.1 at.1.2 at.1.3
      ]
      point_kept (Some l) h =
          (h.0, own_step_kept entries last (operation_from t.start b asked) h.0 h.1, slice_get_kept points (mark ∷ []) h.0 true h.2, log_same (operation_from t.start b asked) h.0 h.1 ∙ h.3)

  -- what is told of the actor whose step this is
  pub tells_own : (a : ℕ) (step : StepOf Record) (answer : Answer Record) (reply : Option Reply) (asked : Command) (point : Option (List Update)) (logs : List (List Update)) (log : List Update)
      → last ≡ Step a step answer reply → log_of entries points ≡ log → command_of entries a ≡ Some asked → (mark ≡ true → point ≡ None)
      → Tells entries points a asked point logs → Tells entries' points' a asked (cond mark (Some log) point) (log ∷ logs)
  tells_own a step answer reply asked point logs log is now asks alone t = record {
    start = t.start;
    begins = slice_get_kept entries (last ∷ []) t.start _ t.begins;
    unended = unended_kept entries last t.start a t.unended (λ c e. absurd (cc));
    logs_at = λ l among. elim among [ inl e ↦ (length entries, new, last_log ∙ sym e, rw take-push_whole asks) | inr in_logs ↦ let h = t.logs_at l in_logs in logs_kept h.0 h.1 h.2 h.3 ];
    point_at = point_kept mark refl point t.point_at;
  }
    where
      new : IsOwnStep entries' (operation_from t.start a asked) (length entries)
      new = own_new entries last t.start a asked step answer reply t.begins t.unended is

      last_log : log_at entries' points' (length entries) ≡ log
      last_log =
          let whole : log_at entries points (length entries) ≡ log_of entries points = rw (take_whole entries (length entries) refl, take_whole points (length entries) (sym beside)) refl in
          log_at-push entries points (last ∷ []) (mark ∷ []) (length entries) beside (omega arith) ∙ whole ∙ now

      logs_kept : {l : List Update} (m : ℕ) → IsOwnStep entries (operation_from t.start a asked) m → log_at entries points m ≡ l → command_of (take m entries) a ≡ Some asked
          → (n : ℕ) × IsOwnStep entries' (operation_from t.start a asked) n × (log_at entries' points' n ≡ l) × (command_of (take n entries') a ≡ Some asked)
      logs_kept m own same asks' =
          let lt : m < length entries = step_below entries last (operation_from t.start a asked) m own in
          (m, own_step_kept entries last (operation_from t.start a asked) m own, log_same (operation_from t.start a asked) m own ∙ same, rw (take-push entries (last ∷ []) m (omega arith)) asks')

      point_kept : (k : Bool) → mark ≡ k → (o : Option (List Update))
          → MatchOption o ((m : ℕ) → IsOwnStep entries (operation_from t.start a asked) m → IsPoint points m → ⊥)
          (λ l. (m : ℕ) × IsOwnStep entries (operation_from t.start a asked) m × IsPoint points m × (log_at entries points m ≡ l))
          → MatchOption (cond k (Some log) o) ((m : ℕ) → IsOwnStep entries' (operation_from t.start a asked) m → IsPoint points' m → ⊥)
          (λ l. (m : ℕ) × IsOwnStep entries' (operation_from t.start a asked) m × IsPoint points' m × (log_at entries' points' m ≡ l))
      point_kept true k o h = (length entries, new, rw beside at (slice_get-push points mark ∙ ap Some k), last_log)
      point_kept false k None h = λ m own p. elim (step_cases entries last (operation_from t.start a asked) m own) [
        | inl own' ↦ h m own' (point_old (operation_from t.start a asked) m own' p)
        | inr at ↦ let marked : mark ≡ true = point_last points mark m (at.0 ∙ sym beside) p in absurd (cc)
      ]
      point_kept false k (Some l) h =
          (h.0, own_step_kept entries last (operation_from t.start a asked) h.0 h.1, slice_get_kept points (mark ∷ []) h.0 true h.2, log_same (operation_from t.start a asked) h.0 h.1 ∙ h.3)

  pub quiet_push : (limits : Limits) → IsQuiet limits entries points → HasMapOf (memory_of limits entries') (log_of entries' points') → IsQuiet limits entries' points'
  quiet_push limits old new = record {
    at_each = λ n le. elim (cases_lt (length entries) n) [
      | inl lt ↦
          let long : length entries' ≡ suc (length entries) = pushed_length entries last in
          let long' : length points' ≡ suc (length points) = pushed_length points mark in
          rw (take_whole entries' n (omega arith), take_whole points' n (omega arith)) new
      | inr le' ↦ rw (memory_at-push limits entries (last ∷ []) n le', log_at-push entries points (last ∷ []) (mark ∷ []) n beside le') (old.at_each n le')
    ];
  }
