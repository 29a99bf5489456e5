-- The causes of an operation pay for one step more: by those that were left, or by being one more cause.
use Rattle.tree_law.proofs.Words.{false, [], ap, cond, suc, List, true, inl, length, ◌++◌, ◌≤◌, inr, ◌∷◌, sym, ℕ, ◌≡◌, Bool, ◌∙◌, ◌<◌, arith, take, ◌+◌, drop, ◌*◌, ◌-◌, cases_lt, All-weaker}
use Rattle.tree_law.proofs.Words.{fold-append, All, count_by, slice_range, Limits, Entry, is_step_of, IsCause, IsOperation, Operation, Affords, refl, cause_worth}
use Rattle.std.proofs.Common.{length-drop}
use Rattle.tree_law.specs.Direct.{AffordsFrom}
use Rattle.std.proofs.Math.Nat.{mul-one, mul-suc}
use Rattle.std.proofs.lemmas.List.{drop-append-le, drop_all, drop_at, take-append-le}
use Rattle.std.proofs.lemmas.List.Elements.{All-head, All-push}
use Rattle.std.proofs.lemmas.Option.{slice_get_within}
use Rattle.traces.proofs.Pushes.{increasing_push, pushed_length}
use Rattle.tree_law.proofs.direct.Causes.{cause_kept}

pub count_push : {X : Type 0} (p : X → Bool) (xs : List X) (x : X) → count_by p (xs ++ x ∷ []) ≡ count_by p xs + cond (p x) 1 0
count_push p xs x = fold-append _ _ xs (x ∷ [])

one_at_most : (t : Bool) → cond t 1 0 ≤ 1
one_at_most true = omega arith
one_at_most false = omega arith

-- a part of the shorter list is the same part of the longer one
pub range_kept : {X : Type 0} (xs : List X) (x : X) (a b : ℕ) → a ≤ b → b ≤ length xs → slice_range (xs ++ x ∷ []) a b ≡ slice_range xs a b
range_kept xs x a b le within =
    let rest : length (drop a xs) ≡ length xs - a = length-drop a xs in
    ap (take (b - a)) (drop-append-le a xs (x ∷ []) (omega arith)) ∙ take-append-le (b - a) (drop a xs) (x ∷ []) (omega arith)

module _ (limits : Limits) (entries : List Entry) (last : Entry) (op : Operation) where
  abbrev longer : List Entry
  longer = entries ++ last ∷ []

  -- an operation begins at an entry
  started : IsOperation entries op → op.start ≤ length entries
  started begun = let start : op.start < length entries = slice_get_within entries op.start _ begun in omega arith

  causes_kept : (causes : List ℕ) → All (λ cause. (cause < length entries) × IsCause limits entries op cause) causes → All (λ cause. (cause < length longer) × IsCause limits longer op cause) causes
  causes_kept causes each = All-weaker (λ cause. (cause < length entries) × IsCause limits entries op cause) (λ cause. (cause < length longer) × IsCause limits longer op cause)
      (λ cause h. let long : length longer ≡ suc (length entries) = pushed_length entries last in let below : cause < length entries = h.0 in
      (omega arith, cause_kept limits entries last op cause h.1))
      causes each

  counted_from : (m : ℕ) → m ≤ length entries → count_by (is_step_of op.actor) (drop m longer) ≡ count_by (is_step_of op.actor) (drop m entries) + cond (is_step_of op.actor last) 1 0
  counted_from m within = ap (count_by (is_step_of op.actor)) (drop-append-le m entries (last ∷ []) within) ∙ count_push (is_step_of op.actor) (drop m entries) last

  -- The causes that paid for the steps from an entry on pay for one entry more.
  paid_on : (m left rest paid : ℕ) → m ≤ length entries → rest + cond (is_step_of op.actor last) 1 0 ≤ left → count_by (is_step_of op.actor) (drop m entries) + left ≤ paid
      → count_by (is_step_of op.actor) (drop m longer) + rest ≤ paid
  paid_on m left rest paid within less old =
      let same : count_by (is_step_of op.actor) (drop m longer) ≡ count_by (is_step_of op.actor) (drop m entries) + cond (is_step_of op.actor last) 1 0 = counted_from m within in
      omega arith

  -- One cause more pays for as many steps as a cause is worth.
  paid_more : (m left rest few : ℕ) (causes : List ℕ) → m ≤ length entries → rest < left + cause_worth limits
      → count_by (is_step_of op.actor) (drop m entries) + left ≤ cause_worth limits * (length causes + few)
      → count_by (is_step_of op.actor) (drop m longer) + rest ≤ cause_worth limits * (length (causes ++ length entries ∷ []) + few)
  paid_more m left rest few causes within less old =
      let same : count_by (is_step_of op.actor) (drop m longer) ≡ count_by (is_step_of op.actor) (drop m entries) + cond (is_step_of op.actor last) 1 0 = counted_from m within in
      let one : cond (is_step_of op.actor last) 1 0 ≤ 1 = one_at_most (is_step_of op.actor last) in
      let more : length (causes ++ length entries ∷ []) ≡ suc (length causes) = pushed_length causes (length entries) in
      let place : length (causes ++ length entries ∷ []) + few ≡ suc (length causes + few) = omega (arith, more) in
      let grown : cause_worth limits * (length (causes ++ length entries ∷ []) + few) ≡ cause_worth limits * (length causes + few) + cause_worth limits
      = rw place (mul-suc (cause_worth limits) (length causes + few)) in
      omega arith

  causes_kept_from : (m : ℕ) (causes : List ℕ) → All (λ cause. (m ≤ cause) × (cause < length entries) × IsCause limits entries op cause) causes
      → All (λ cause. (m ≤ cause) × (cause < length longer) × IsCause limits longer op cause) causes
  causes_kept_from m causes each =
      All-weaker (λ cause. (m ≤ cause) × (cause < length entries) × IsCause limits entries op cause) (λ cause. (m ≤ cause) × (cause < length longer) × IsCause limits longer op cause)
      (λ cause h. let long : length longer ≡ suc (length entries) = pushed_length entries last in let below : cause < length entries = h.1 in
      (h.0, omega arith, cause_kept limits entries last op cause h.2))
      causes each

  -- from the end of the trace on nothing is taken
  from_end : (left m : ℕ) → length longer ≤ m → left ≤ cause_worth limits * 10 → AffordsFrom limits longer op left m
  from_end left m past few = record {
    causes = [];
    increasing = λ j h. absurd (omega arith);
    each = λ j d h. absurd (omega arith);
    paid =
        let none : count_by (is_step_of op.actor) (drop m longer) ≡ 0 = ap (count_by (is_step_of op.actor)) (drop_all m longer past) in
        omega arith;
  }

  -- as few are left, and the entry costs no more than was left
  from_less : (left rest m : ℕ) → m ≤ length entries → rest + cond (is_step_of op.actor last) 1 0 ≤ left → AffordsFrom limits entries op left m → AffordsFrom limits longer op rest m
  from_less left rest m within less h = record {
    causes = h.causes;
    increasing = h.increasing;
    each = causes_kept_from m h.causes h.each;
    paid = paid_on m left rest (cause_worth limits * (length h.causes + 10)) within less h.paid;
  }

  from_cause : (left rest m : ℕ) → m ≤ length entries → IsCause limits longer op (length entries) → rest < left + cause_worth limits
      → AffordsFrom limits entries op left m → AffordsFrom limits longer op rest m
  from_cause left rest m within cause less h = record {
    causes = h.causes ++ length entries ∷ [];
    increasing =
        increasing_push h.causes (length entries) h.increasing (All-weaker (λ c. (m ≤ c) × (c < length entries) × IsCause limits entries op c) (λ c. c < length entries) (λ c g. g.1) h.causes h.each);
    each =
        let long : length longer ≡ suc (length entries) = pushed_length entries last in
        All-push (λ c. (m ≤ c) × (c < length longer) × IsCause limits longer op c) h.causes (length entries) (causes_kept_from m h.causes h.each) (within, omega arith, cause);
    paid = paid_more m left rest 10 h.causes within less h.paid;
  }

  -- from each entry on, where it is so from each but the end
  from_each : (left : ℕ) → left ≤ cause_worth limits * 10 → ((m : ℕ) → op.start < m → m ≤ length entries → AffordsFrom limits longer op left m) → (m : ℕ)
      → op.start < m → m ≤ length longer → AffordsFrom limits longer op left m
  from_each left few earlier m after within =
      let long : length longer ≡ suc (length entries) = pushed_length entries last in
      elim (cases_lt (length entries) m) [
        | inl past ↦ from_end left m (omega arith) few
        | inr le ↦ earlier m after le
      ]

  -- an operation that can afford more steps than there may be can afford as many as these
  few_left : (left : ℕ) → IsOperation entries op → Affords limits entries op left → left ≤ cause_worth limits * 10
  few_left left begun h =
      let start : op.start < length entries = slice_get_within entries op.start _ begun in
      last_paid (h.since (length entries) start (omega arith))
    where
      last_paid : AffordsFrom limits entries op left (length entries) → left ≤ cause_worth limits * 10
      last_paid f = no_causes f.causes f.each f.paid
        where
          no_causes : (causes : List ℕ) → All (λ cause. (length entries ≤ cause) × (cause < length entries) × IsCause limits entries op cause) causes
              → count_by (is_step_of op.actor) (drop (length entries) entries) + left ≤ cause_worth limits * (length causes + 10) → left ≤ cause_worth limits * 10
          no_causes [] each paid = let e : cause_worth limits * (0 + 10) ≡ cause_worth limits * 10 = refl in omega arith
          no_causes (c ∷ cs) each paid =
              let at = All-head (λ cause. (length entries ≤ cause) × (cause < length entries) × IsCause limits entries op cause) c cs each in
              let low : length entries ≤ c = at.0 in
              let high : c < length entries = at.1 in
              absurd (omega arith)

  -- an entry that is no step of its actor costs nothing
  pub affords_kept : (left : ℕ) → IsOperation entries op → is_step_of op.actor last ≡ false → Affords limits entries op left → Affords limits longer op left
  affords_kept left begun other h = record {
    causes = h.causes;
    increasing = h.increasing;
    each = causes_kept h.causes h.each;
    paid = paid_on op.start left left (cause_worth limits * (length h.causes + 1)) (started begun) none h.paid;
    since = from_each left (few_left left begun h) (λ m after within. from_less left left m within none (h.since m after within));
  }
    where
      none : left + cond (is_step_of op.actor last) 1 0 ≤ left
      none = let free : cond {A = ℕ} (is_step_of op.actor last) 1 0 ≡ 0 = rw other in omega arith

  -- what was left pays for one step more
  pub affords_less : (left rest : ℕ) → IsOperation entries op → Affords limits entries op left → rest < left → Affords limits longer op rest
  affords_less left rest begun h less = record {
    causes = h.causes;
    increasing = h.increasing;
    each = causes_kept h.causes h.each;
    paid = paid_on op.start left rest (cause_worth limits * (length h.causes + 1)) (started begun) enough h.paid;
    since =
        let most : left ≤ cause_worth limits * 10 = few_left left begun h in
        from_each rest (omega arith) (λ m after within. from_less left rest m within enough (h.since m after within));
  }
    where
      enough : rest + cond (is_step_of op.actor last) 1 0 ≤ left
      enough = let one : cond (is_step_of op.actor last) 1 0 ≤ 1 = one_at_most (is_step_of op.actor last) in omega arith

  -- a cause more is worth 2^18 steps, itself among them
  pub affords_cause : (left rest : ℕ) → IsOperation entries op → Affords limits entries op left → IsCause limits longer op (length entries)
      → rest < left + cause_worth limits → rest ≤ cause_worth limits * 10 → Affords limits longer op rest
  affords_cause left rest begun h cause less few = record {
    causes = h.causes ++ length entries ∷ [];
    increasing = increasing_push h.causes (length entries) h.increasing (All-weaker (λ c. (c < length entries) × IsCause limits entries op c) (λ c. c < length entries) (λ c g. g.0) h.causes h.each);
    each =
        let long : length longer ≡ suc (length entries) = pushed_length entries last in
        All-push (λ c. (c < length longer) × IsCause limits longer op c) h.causes (length entries) (causes_kept h.causes h.each) (omega arith, cause);
    paid = paid_more op.start left rest 1 h.causes (started begun) less h.paid;
    since = from_each rest few (λ m after within. from_cause left rest m within cause less (h.since m after within));
  }

  -- an operation that the last entry begins has taken no step
  pub affords_begun : (left : ℕ) → op.start ≡ length entries → is_step_of op.actor last ≡ false → left ≤ cause_worth limits → Affords limits longer op left
  affords_begun left at begins few = record {
    causes = [];
    increasing = λ j h. absurd (omega arith);
    each = λ j d h. absurd (omega arith);
    paid =
        let rest : drop op.start longer ≡ last ∷ [] = drop_at entries (last ∷ []) op.start (sym at) in
        let none : count_by (is_step_of op.actor) (drop op.start longer) ≡ 0 = ap (count_by (is_step_of op.actor)) rest ∙ ap (λ t. 0 + cond {A = ℕ} t 1 0) begins in
        let once : cause_worth limits * 1 ≡ cause_worth limits = mul-one (cause_worth limits) in
        omega arith;
    since = λ m after within.
        let long : length longer ≡ suc (length entries) = pushed_length entries last in
        from_end left m (omega arith) (tenfold (cause_worth limits) left few);
  }
    where
      tenfold : (worth left : ℕ) → left ≤ worth → left ≤ worth * 10
      tenfold worth left few = omega (arith, few)
