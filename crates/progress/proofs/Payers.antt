-- Each cause of an operation needs an entry of its own, where nobody has placed a removal.
use Rattle.progress.proofs.Words.{◌≡◌, ◌≢◌, ◌<◌, ◌≤◌, ◌+◌, ◌-◌, ◌*◌, ◌⊎◌, ℕ, suc, List, [], ◌∷◌, Some, Bool, true, false, take, refl, sym, ◌∙◌, inl, inr, arith, mul-le-mul_left, cases_lt}
use Rattle.progress.proofs.Words.{All-head, All-tail, All, IsStrictlyIncreasing, Limits, Number, Whether, Link, Entry, IsRun, TakesStep, memory_at, link_of, IsCause, IsDirect, IsExchangeOf}
use Rattle.progress.proofs.Words.{IsTake, TakesNone, IsOperation, Operation, TakesOwnStep, KeepsPhases, PlacesNoRemoval, Exchange}
use Rattle.bw_model.specs.declared.step.Step.TheVariants.{Slot}
use Rattle.bw_model.specs.declared.step.Link.TheVariants as link
use Rattle.progress.proofs.Between.{take_of}
use Rattle.progress.proofs.Causes.{meets_none}
use Rattle.progress.proofs.Counted.{AreDistinct, Each, IsNotAmong}
use Rattle.progress.proofs.Numbered.{IsIn, Numbered, numbered}
use Rattle.progress.proofs.Spans.{ExchangedBeside, TakenBeside, is_take, lost_by_change, missed_by_take, of_own, same_step}

tail_up : (c : ℕ) (cs : List ℕ) → IsStrictlyIncreasing (c ∷ cs) → IsStrictlyIncreasing cs
tail_up c cs up k h = rw (let e : suc k + 1 ≡ suc (k + 1) = omega arith in e) at (up (suc k) (omega arith))

-- an increasing list has each number once
above_first : (c : ℕ) (cs : List ℕ) → IsStrictlyIncreasing (c ∷ cs) → Each (λ d. c < d) cs
above_first c [] up = tt
above_first c (d ∷ ds) up =
    let first : c < d = up 0 (omega arith) in
    (first, higher c d ds first (above_first d ds (tail_up c (d ∷ ds) up)))
  where
    higher : (c d : ℕ) (es : List ℕ) → c < d → Each (λ e. d < e) es → Each (λ e. c < e) es
    higher c d [] lt h = tt
    higher c d (e ∷ es) lt h = (omega (arith, lt, h.0), higher c d es lt h.1)

not_among : (c : ℕ) (cs : List ℕ) → Each (λ d. c < d) cs → IsNotAmong c cs
not_among c [] h = tt
not_among c (d ∷ ds) h = (λ same. let lt : c < d = h.0 in omega arith, not_among c ds h.1)

pub all_distinct : (cs : List ℕ) → IsStrictlyIncreasing cs → AreDistinct cs
all_distinct [] up = tt
all_distinct (c ∷ cs) up = (not_among c cs (above_first c cs up), all_distinct cs (tail_up c cs up))

pub by_order : (c d : ℕ) → (c < d → ⊥) → (d < c → ⊥) → c ≡ d
by_order c d lower higher = elim (cases_lt c d) [ inl lt ↦ absurd (lower lt) | inr le ↦ elim (cases_lt d c) [ inl lt ↦ absurd (higher lt) | inr ge ↦ omega arith ] ]

module _ (limits : Limits) (entries : List Entry) (run : IsRun limits entries) (op : Operation) where
  -- its exchange won
  pub record WinsItself (k c : ℕ) : Type 0 where
    pub same : k ≡ c
    pub slot : ℕ
    pub old : ℕ
    pub new : ℕ
    pub took : TakesOwnStep entries op c (Exchange slot old new) (Whether true)
    pub kind : Link
    pub links : link_of (memory_at limits entries c) slot old new ≡ Some kind
    pub no_ready : kind ≢ link.Ready
    pub no_undo : kind ≢ link.Undo

  -- its exchange lost to another's
  pub record LosesTo (k c : ℕ) : Type 0 where
    pub slot : ℕ
    pub old : ℕ
    pub new : ℕ
    pub since : ℕ
    pub low : since < k
    pub high : k < c
    pub took : TakesOwnStep entries op c (Exchange slot old new) (Whether false)
    pub read : TakesOwnStep entries op since (Slot slot) (Number old)
    pub none : TakesNone limits entries op since c (IsExchangeOf slot)
    pub beside : ExchangedBeside limits entries run op slot old k

  -- its take missed what another one took
  pub record MissesTo (k c : ℕ) : Type 0 where
    pub pids : Bool
    pub number : ℕ
    pub since : ℕ
    pub low : since < k
    pub high : k < c
    pub took : TakesOwnStep entries op c (take_of pids number) (Whether false)
    pub none : TakesNone limits entries op since c IsTake
    pub beside : TakenBeside limits entries run op pids number k

  itself : (k c : ℕ) (p : WinsItself k c) → TakesStep entries k op.actor (Exchange p.slot p.old p.new) (Whether true)
  itself k c p = rw p.same (of_own p.took)

  -- the entry at k is what the cause at c needed
  abbrev pub Pays : ℕ → ℕ → Type 0
  Pays k c = (op.start < k) × (k ≤ c) × (WinsItself k c ⊎ LosesTo k c ⊎ MissesTo k c)

  no_take : (pids : Bool) (number slot old new : ℕ) → Exchange slot old new ≡ take_of pids number → ⊥
  no_take true number slot old new e = cc
  no_take false number slot old new e = cc

  -- the entry at k, which each of them needed
  pub same_cause : (k c d : ℕ) → Pays k c → Pays k d → c ≡ d
  same_cause k c d (low, high, inl p) (low', high', inl q) = sym p.same ∙ q.same
  same_cause k c d (low, high, inl p) (low', high', inr (inl q)) =
      absurd (q.beside.2 (sym (same_step entries k op.actor q.beside.0 _ _ _ _ (itself k _ p) q.beside.3).0))
  same_cause k c d (low, high, inl p) (low', high', inr (inr q)) =
      absurd (q.beside.1 (sym (same_step entries k op.actor q.beside.0 _ _ _ _ (itself k _ p) q.beside.2).0))
  same_cause k c d (low, high, inr (inl p)) (low', high', inl q) =
      absurd (p.beside.2 (sym (same_step entries k op.actor p.beside.0 _ _ _ _ (itself k _ q) p.beside.3).0))
  same_cause k c d (low, high, inr (inr p)) (low', high', inl q) =
      absurd (p.beside.1 (sym (same_step entries k op.actor p.beside.0 _ _ _ _ (itself k _ q) p.beside.2).0))
  same_cause k c d (low, high, inr (inl p)) (low', high', inr (inr q)) =
      absurd (no_take q.pids q.number p.slot p.old p.beside.1 (same_step entries k p.beside.0 q.beside.0 _ _ _ _ p.beside.3 q.beside.2).1)
  same_cause k c d (low, high, inr (inr p)) (low', high', inr (inl q)) =
      absurd (no_take p.pids p.number q.slot q.old q.beside.1 (same_step entries k q.beside.0 p.beside.0 _ _ _ _ q.beside.3 p.beside.2).1)
  same_cause k c d (low, high, inr (inl p)) (low', high', inr (inl q)) =
      let step : Exchange p.slot p.old p.beside.1 ≡ Exchange q.slot q.old q.beside.1 = (same_step entries k p.beside.0 q.beside.0 _ _ _ _ p.beside.3 q.beside.3).1 in
      let slot : p.slot ≡ q.slot = cc in
      by_order c d (λ lt. q.none c _ _ (omega (arith, q.low, p.high)) lt p.took slot) (λ lt. p.none d _ _ (omega (arith, p.low, q.high)) lt q.took (sym slot))
  same_cause k c d (low, high, inr (inr p)) (low', high', inr (inr q)) =
      by_order c d (λ lt. q.none c _ _ (omega (arith, q.low, p.high)) lt p.took (is_take p.pids p.number)) (λ lt. p.none d _ _ (omega (arith, p.low, q.high)) lt q.took (is_take q.pids q.number))

  -- its take missed what it had read as free before entry m
  pub record MissesBefore (m c : ℕ) : Type 0 where
    pub pids : Bool
    pub number : ℕ
    pub since : ℕ
    pub low : since < m
    pub took : TakesOwnStep entries op c (take_of pids number) (Whether false)
    pub calm : TakesNone limits entries op since c IsTake

  -- so one does from there on at most
  pub one_miss : (m c d : ℕ) → m ≤ c → m ≤ d → MissesBefore m c → MissesBefore m d → c ≡ d
  one_miss m c d low low' p q =
      by_order c d (λ lt. q.calm c _ _ (let l : q.since < m = q.low in omega (arith, l, low)) lt p.took (is_take p.pids p.number))
      (λ lt. p.calm d _ _ (let l : p.since < m = p.low in omega (arith, l, low')) lt q.took (is_take q.pids q.number))

  -- for each of these causes an entry after the begin, and different ones for different ones
  pub paid_by : (P : ℕ → Type 0) → ((c : ℕ) → P c → (k : ℕ) × Pays k c) → (cs : List ℕ) → AreDistinct cs → All P cs → Numbered (λ j d. Pays (op.start + j) d) cs
  paid_by P pay cs once all = numbered (λ j d. Pays (op.start + j) d) (λ j c d. same_cause (op.start + j) c d) P place cs once all
    where
      place : (c : ℕ) → P c → (j : ℕ) × Pays (op.start + j) c
      place c is =
          let paid = pay c is in
          let low : op.start < paid.0 = paid.1.0 in
          let at : op.start + (paid.0 - op.start) ≡ paid.0 = omega arith in
          (paid.0 - op.start, rw at paid.1)

  module _ (keeps : KeepsPhases limits entries) (direct : IsDirect limits entries) (begun : IsOperation entries op) (n : ℕ) (none : PlacesNoRemoval (take n entries)) where
    -- what a cause needed
    pub pays_for : (c : ℕ) → (c ≤ n) × IsCause limits entries op c → (k : ℕ) × Pays k c
    pays_for c (le, inl h) =
        (c, (h.1.3.1.begun, omega arith, inl (record { same = refl; slot = h.1.0; old = h.1.1; new = h.1.2; took = h.1.3; kind = h.0; links = h.1.4; no_ready = h.2; no_undo = h.3 })))
    pays_for c (le, inr (inl (slot, old, new, m, lost, lt, read, calm))) =
        let h = lost_by_change limits entries run op slot old new m c lt lost read calm in
        let a : op.start < m = read.1.begun in
        let b : m < h.0 = h.1 in
        let e : h.0 < c = h.2 in
        (h.0, (omega arith, omega arith, inr (inl (record { slot = slot; old = old; new = new; since = m; low = h.1; high = h.2; took = lost; read = read; none = calm; beside = h.3 }))))
    pays_for c (le, inr (inr (inl (item, bits, m, lt, bit, calm, inl took)))) =
        let h = missed_by_take limits entries run op true item bits m c lt bit took.0 took.1 calm in
        let a : op.start < m = took.1.1.begun in
        let b : m < h.0 = h.1 in
        let e : h.0 < c = h.2 in
        (h.0, (omega arith, omega arith, inr (inr (record { pids = true; number = item; since = m; low = h.1; high = h.2; took = took.0; none = calm; beside = h.3 }))))
    pays_for c (le, inr (inr (inl (item, bits, m, lt, bit, calm, inr took)))) =
        let h = missed_by_take limits entries run op false item bits m c lt bit took.0 took.1 calm in
        let a : op.start < m = took.1.1.begun in
        let b : m < h.0 = h.1 in
        let e : h.0 < c = h.2 in
        (h.0, (omega arith, omega arith, inr (inr (record { pids = false; number = item; since = m; low = h.1; high = h.2; took = took.0; none = calm; beside = h.3 }))))
    pays_for c (le, inr (inr (inr meets))) = absurd (meets_none limits entries run keeps direct op begun n none c le meets)

    pub most_of : (cs : List ℕ) → All (λ c. (c ≤ n) × IsCause limits entries op c) cs → (d : ℕ) → IsIn d cs → d ≤ n
    most_of [] all d within = absurd within
    most_of (c ∷ cs) all d (inl here) = rw here (All-head (λ c. (c ≤ n) × IsCause limits entries op c) c cs all).0
    most_of (c ∷ cs) all d (inr there) = most_of cs (All-tail (λ c. (c ≤ n) × IsCause limits entries op c) c cs all) d there

pub more_paid : (steps worth causes most : ℕ) → causes ≤ most → steps ≤ worth * (causes + 1) → steps ≤ worth * (most + 1)
more_paid steps worth causes most le paid = let grown : worth * (causes + 1) ≤ worth * (most + 1) = mul-le-mul_left worth (omega arith) in omega (arith, grown, paid)
