-- From any entry on: what an operation had read before costs it a slot of each page, and free numbers once, and what hinders it since pays for the rest.
use Rattle.progress.proofs.Words.{◌≡◌, ◌<◌, ◌≤◌, ◌+◌, ◌-◌, ◌*◌, ◌⊎◌, ℕ, zero, suc, List, [], ◌∷◌, Bool, true, false, length, take, refl, ap, ◌∙◌, inl, inr, arith, mul-le-mul_left, cases_lt}
use Rattle.progress.proofs.Words.{All, Limits, Number, Whether, Entry, cause_worth, IsRun, IsCause, IsDirect, IsExchangeOf, TakesNone, IsOperation, IsOwnStep, Operation, TakesOwnStep}
use Rattle.progress.proofs.Words.{KeepsPhases, PlacesNoRemoval, steps_from, Exchange}
use Rattle.bw_model.specs.declared.step.Step.TheVariants.{Slot}
use Rattle.linearization.specs.UntilRemoval.{OperationsEndUntilRemoval}
use Rattle.progress.proofs.Counted.{AreDistinct, Each}
use Rattle.progress.proofs.Hindering.{among_hinder, hinder, paid_by_hinder, pays_hinder}
use Rattle.progress.proofs.Numbered.{IsIn, numbered}
use Rattle.progress.proofs.Payers.{MissesBefore, Pays, all_distinct, by_order, one_miss, pays_for, same_cause}
use Rattle.progress.proofs.Settled.{cleared_none}
use Rattle.progress.proofs.Tallies.{listed, tally, tally_most, tally_same, tally_split, tally_within}

-- a test that passes at the first places, and goes on as another one after them
abbrev late : (ℕ → Bool) → ℕ → ℕ → Bool
late t zero j = t j
late t (suc first) zero = true
late t (suc first) (suc j) = late t first j

late_first : (t : ℕ → Bool) (first j : ℕ) → j < first → late t first j ≡ true
late_first t zero j lt = absurd (omega arith)
late_first t (suc first) zero lt = refl
late_first t (suc first) (suc j) lt = late_first t first j (omega arith)

late_then : (t : ℕ → Bool) (first i : ℕ) → late t first (first + i) ≡ t i
late_then t zero i = ap t (let e : 0 + i ≡ i = omega arith in e)
late_then t (suc first) i = ap (late t (suc first)) (let e : suc first + i ≡ suc (first + i) = omega arith in e) ∙ late_then t first i

module _ (limits : Limits) (entries : List Entry) (run : IsRun limits entries) (keeps : KeepsPhases limits entries) (direct : IsDirect limits entries)
    (op : Operation) (begun : IsOperation entries op) (n : ℕ) (none : PlacesNoRemoval (take n entries)) (m : ℕ) where
  -- its exchange of the slot lost, which it had read before entry m
  record LosesEarlier (slot c : ℕ) : Type 0 where
    pub old : ℕ
    pub new : ℕ
    pub since : ℕ
    pub low : since < m
    pub took : TakesOwnStep entries op c (Exchange slot old new) (Whether false)
    pub calm : TakesNone limits entries op since c (IsExchangeOf slot)

  -- an entry from m on pays for it
  abbrev PaysLater : ℕ → ℕ → Type 0
  PaysLater j c = (k : ℕ) × (m ≤ k) × (j ≡ suc limits.pids + (k - m)) × Pays limits entries run op k c

  -- Each cause from entry m on has a number: the slot, one more than all of these, or the entry that pays, after that.
  abbrev HasNumber : ℕ → ℕ → Type 0
  HasNumber j c = (m ≤ c) × (c ≤ n) × (((j < limits.pids) × LosesEarlier j c) ⊎ ((j ≡ limits.pids) × MissesBefore limits entries run op m c) ⊎ PaysLater j c)

  apart : (j k : ℕ) → j < limits.pids → j ≡ suc limits.pids + (k - m) → ⊥
  apart j k lt e = omega arith

  beyond : (j k : ℕ) → j ≡ limits.pids → j ≡ suc limits.pids + (k - m) → ⊥
  beyond j k same e = omega arith

  same_number : (j c d : ℕ) → HasNumber j c → HasNumber j d → c ≡ d
  same_number j c d (low, high, inl p) (low', high', inl q) =
      by_order c d (λ lt. let l : q.1.since < m = q.1.low in q.1.calm c _ _ (omega arith) lt p.1.took refl) (λ lt. let l : p.1.since < m = p.1.low in p.1.calm d _ _ (omega arith) lt q.1.took refl)
  same_number j c d (low, high, inl p) (low', high', inr (inl q)) = absurd (let lt : j < limits.pids = p.0 in let e : j ≡ limits.pids = q.0 in omega arith)
  same_number j c d (low, high, inl p) (low', high', inr (inr q)) = absurd (apart j q.0 p.0 q.2)
  same_number j c d (low, high, inr (inl p)) (low', high', inl q) = absurd (let lt : j < limits.pids = q.0 in let e : j ≡ limits.pids = p.0 in omega arith)
  same_number j c d (low, high, inr (inr p)) (low', high', inl q) = absurd (apart j p.0 q.0 p.2)
  same_number j c d (low, high, inr (inl p)) (low', high', inr (inl q)) = one_miss limits entries run op m c d low low' p.1 q.1
  same_number j c d (low, high, inr (inl p)) (low', high', inr (inr q)) = absurd (beyond j q.0 p.0 q.2)
  same_number j c d (low, high, inr (inr p)) (low', high', inr (inl q)) = absurd (beyond j p.0 q.0 p.2)
  same_number j c d (low, high, inr (inr (k, le, e, p))) (low', high', inr (inr (i, le', e', q))) =
      let same : i ≡ k = omega arith in
      same_cause limits entries run op k c d p (rw (← same) q)

  -- a slot that was read is that of a page that there may be
  there : (slot old since : ℕ) → since ≤ n → TakesOwnStep entries op since (Slot slot) (Number old) → slot < limits.pids
  there zero old since within read = let some = limits.allowed.some_pids in omega (arith, some)
  there (suc p) zero since within read = absurd (cleared_none limits entries keeps n none since (suc p) within (direct.emptied op since (suc p) begun read))
  there (suc p) (suc row) since within read = (direct.settled op since (suc p) (suc row) begun read (omega arith) (omega arith)).4

  number_of : (c : ℕ) → (m ≤ c) × (c ≤ n) × IsCause limits entries op c → (j : ℕ) × HasNumber j c
  number_of c (low, high, cause) =
      let paid = pays_for limits entries run op keeps direct begun n none c (high, cause) in
      elim (cases_lt paid.0 m) [
        | inr le ↦ (suc limits.pids + (paid.0 - m), (low, high, inr (inr (paid.0, le, refl, paid.1))))
        | inl lt ↦ earlier paid.0 lt paid.1
      ]
    where
      earlier : (k : ℕ) → k < m → Pays limits entries run op k c → (j : ℕ) × HasNumber j c
      earlier k lt (after, le, inl p) = absurd (let same : k ≡ c = p.same in omega arith)
      earlier k lt (after, le, inr (inl p)) =
          let before : p.since < k = p.low in
          (p.slot, (low, high, inl (there p.slot p.old p.since (omega arith) p.read, record { old = p.old; new = p.new; since = p.since; low = omega arith; took = p.took; calm = p.none })))
      earlier k lt (after, le, inr (inr p)) =
          let before : p.since < k = p.low in
          (limits.pids, (low, high, inr (inl (refl, record { pids = p.pids; number = p.number; since = p.since; low = omega arith; took = p.took; calm = p.none }))))

  -- whether a number is that of a slot or of free numbers, or of an entry that hinders
  abbrev counts : ℕ → Bool
  counts j = late (λ i. hinder limits entries op.actor (m + i)) (suc limits.pids) j

  passes : (j c : ℕ) → HasNumber j c → (j < suc limits.pids + (suc n - m)) × (counts (0 + j) ≡ true)
  passes j c (low, high, inl p) = let lt : j < limits.pids = p.0 in (omega arith, late_first (λ i. hinder limits entries op.actor (m + i)) (suc limits.pids) (0 + j) (omega arith))
  passes j c (low, high, inr (inl p)) = let same : j ≡ limits.pids = p.0 in (omega arith, late_first (λ i. hinder limits entries op.actor (m + i)) (suc limits.pids) (0 + j) (omega arith))
  passes j c (low, high, inr (inr (k, le, e, p))) =
      let before : k ≤ c = p.1 in
      let at : 0 + j ≡ suc limits.pids + (k - m) = omega arith in
      let here : m + (k - m) ≡ k = omega arith in (
        omega arith,
        ap counts at ∙ late_then (λ i. hinder limits entries op.actor (m + i)) (suc limits.pids) (k - m) ∙ ap (hinder limits entries op.actor) here ∙
            pays_hinder limits entries run keeps direct op begun n none k c (omega arith) p,
      )

  all_pass : (cs js : List ℕ) → Each (λ j. (d : ℕ) × IsIn d cs × HasNumber j d) js → Each (λ j. (j < suc limits.pids + (suc n - m)) × (counts (0 + j) ≡ true)) js
  all_pass cs [] each = tt
  all_pass cs (j ∷ js) each = (passes j each.0.0 each.0.2, all_pass cs js each.1)

  few_since : m ≤ n → (cs : List ℕ) → AreDistinct cs → All (λ c. (m ≤ c) × (c ≤ n) × IsCause limits entries op c) cs
      → length cs ≤ suc limits.pids + tally (hinder limits entries op.actor) m (suc n - m)
  few_since le cs once all =
      let has = numbered HasNumber same_number (λ c. (m ≤ c) × (c ≤ n) × IsCause limits entries op c) number_of cs once all in
      let most : length has.numbers ≤ tally counts 0 (suc limits.pids + (suc n - m)) = tally_most counts 0 (suc limits.pids + (suc n - m)) has.numbers
      has.distinct (all_pass cs has.numbers has.each) in
      let split : tally counts 0 (suc limits.pids + (suc n - m)) ≡ tally counts 0 (suc limits.pids) + tally counts (0 + suc limits.pids) (suc n - m) = tally_split
      counts 0 (suc limits.pids) (suc n - m) in
      let first : tally counts 0 (suc limits.pids) ≤ suc limits.pids = tally_within counts 0 (suc limits.pids) in
      let then : tally counts (0 + suc limits.pids) (suc n - m) ≡ tally (hinder limits entries op.actor) m (suc n - m) =
      tally_same counts (hinder limits entries op.actor) (0 + suc limits.pids) m (suc n - m) (λ i lt.
      ap counts (let e : 0 + suc limits.pids + i ≡ suc limits.pids + i = omega arith in e) ∙ late_then (λ i. hinder limits entries op.actor (m + i)) (suc limits.pids) i) in
      let many = has.as_many in
      omega (arith, most, split, first, then, many)

  pub paid_since : op.start < m → m ≤ n → IsOwnStep entries op n → steps_from entries op.actor m n ≤ cause_worth limits * (tally (hinder limits entries op.actor) m (suc n - m) + limits.pids + 11)
  paid_since after le own =
      let h = direct.since op m n begun after le own in
      let most : length h.0 ≤ suc limits.pids + tally (hinder limits entries op.actor) m (suc n - m) = few_since le h.0 (all_distinct h.0 h.1) h.2 in
      let paid : steps_from entries op.actor m n ≤ cause_worth limits * (length h.0 + 10) = h.3 in
      let grown : cause_worth limits * (length h.0 + 10) ≤ cause_worth limits * (tally (hinder limits entries op.actor) m (suc n - m) + limits.pids + 11) = mul-le-mul_left
      (cause_worth limits) (omega (arith, most)) in
      omega (arith, paid, grown)

pub operations_end : (limits : Limits) (entries : List Entry) → IsRun limits entries → KeepsPhases limits entries → IsDirect limits entries → OperationsEndUntilRemoval limits entries
operations_end limits entries run keeps direct = record {
  few = λ op n begun own none.
      let list = listed (hinder limits entries op.actor) op.start (suc n - op.start) in
      let start : op.start < n = own.2.1.begun in
      let paid = paid_by_hinder limits entries run keeps direct op begun n none own in
      (list.places, among_hinder limits entries op.actor op.start (suc n - op.start) n (omega arith) list, rw list.counts paid);
  since = λ op m n begun after le own none.
      let list = listed (hinder limits entries op.actor) m (suc n - m) in
      let paid = paid_since limits entries run keeps direct op begun n none m after le own in
      (list.places, among_hinder limits entries op.actor m (suc n - m) n (omega arith) list, rw list.counts paid);
}
