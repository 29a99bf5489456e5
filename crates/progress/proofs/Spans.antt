-- An exchange that loses, and a take that misses, needs a step that another actor has taken since it read what it expects.
use Rattle.progress.proofs.Words.{◌≡◌, ◌≢◌, ◌<◌, ◌≤◌, ℕ, List, Bool, true, false, Some, refl, sym, ap, ◌∙◌, inl, inr, arith, eqb_tells, Limits, Answer, Number, Whether, StepOf, Record, Entry}
use Rattle.progress.proofs.Words.{Step, IsRun, TakesStep, memory_at, IsExchangeOf, IsTake, TakesNone, Operation, TakesOwnStep, ◌==◌, Exchange}
use Rattle.std.proofs.Math.Nat.{div-add-mod}
use Rattle.std.specs.Int.{bit_at}
use Rattle.std.specs.Prelude.{◌/◌, ◌%◌}
use Rattle.bw_model.specs.declared.step.Step.TheVariants.{PidBits, RowBits, Slot}
use Rattle.progress.proofs.Between.{as_number, freedom, take_of, was_exchanged, was_taken}

-- the step that reads the word of free PIDs, or else of free rows, in which the number is
abbrev pub look_of : Bool → ℕ → StepOf Record
look_of true number = PidBits (number / 64)
look_of false number = RowBits (number / 64)

pub is_take : (pids : Bool) (number : ℕ) → IsTake (take_of pids number)
is_take true number = tt
is_take false number = tt

module _ (entries : List Entry) (op : Operation) where
  -- between its begin and a step of it, each step of its actor is the operation's
  pub own_between : (k n : ℕ) (s t : StepOf Record) (x y : Answer Record) → op.start < k → k < n → TakesStep entries k op.actor s x → TakesOwnStep entries op n t y → TakesOwnStep entries op k s x
  own_between k n s t x y low high took own = (took.0, record { begun = low; entry = took.1; not_ended = λ later c after before. own.1.not_ended later c after (omega arith) })

-- two entries at one place are one
pub same_step : (entries : List Entry) (k a b : ℕ) (s t : StepOf Record) (x y : Answer Record) → TakesStep entries k a s x → TakesStep entries k b t y → (a ≡ b) × (s ≡ t)
same_step entries k a b s t x y first second =
    let e : Some (Step a s x first.0) ≡ Some (Step b t y second.0) = sym first.1 ∙ second.1 in (cc, cc)

pub of_own : {entries : List Entry} {op : Operation} {n : ℕ} {s : StepOf Record} {x : Answer Record} → TakesOwnStep entries op n s x → TakesStep entries n op.actor s x
of_own took = (took.0, took.1.entry)

unequal : (m n : ℕ) → ◌≡◌ {A = Answer Record} (Whether false) (Whether (m == n)) → m ≢ n
unequal m n e same = elim (eqb_tells m n) [ inl tells ↦ absurd (cc (e, tells.0)) | inr tells ↦ tells.1 same ]

module _ (limits : Limits) (entries : List Entry) (run : IsRun limits entries) (op : Operation) where
  -- another actor exchanges the slot from this number, and wins
  abbrev pub ExchangedBeside : ℕ → ℕ → ℕ → Type 0
  ExchangedBeside slot old k = (other new : ℕ) × (other ≢ op.actor) × TakesStep entries k other (Exchange slot old new) (Whether true)

  abbrev pub TakenBeside : Bool → ℕ → ℕ → Type 0
  TakenBeside pids number k = (other : ℕ) × (other ≢ op.actor) × TakesStep entries k other (take_of pids number) (Whether true)

  pub lost_by_change : (slot old new m n : ℕ) → m < n → TakesOwnStep entries op n (Exchange slot old new) (Whether false) → TakesOwnStep entries op m (Slot slot) (Number old)
      → TakesNone limits entries op m n (IsExchangeOf slot)
      → (k : ℕ) × (m < k) × (k < n) × ExchangedBeside slot old k
  lost_by_change slot old new m n lt lost read none =
      let told : Number old ≡ Number ((memory_at limits entries m).slots slot) = (run.each m _ read.1.entry).2 in
      let was : (memory_at limits entries m).slots slot ≡ old = cc in
      let h = was_exchanged limits entries run slot old m n (omega arith) was (unequal ((memory_at limits entries n).slots slot) old (run.each n _ lost.1.entry).2) in
      let begun : op.start < m = read.1.begun in
      let after : m < h.0 = later h.0 h.1 h.3.1 h.3.0 h.3.2 in
      let won : StepOf Record = Exchange slot old h.3.1 in
      let own = λ (mine : TakesStep entries h.0 op.actor (Exchange slot old h.3.1) (Whether true)).
      own_between entries op h.0 n (Exchange slot old h.3.1) (Exchange slot old new) (Whether true) (Whether false) (omega arith) h.2 mine lost in
      (h.0, after, h.2, (h.3.0, h.3.1, (λ same. none h.0 won (Whether true) after h.2 (own (rw same at h.3.2)) refl), h.3.2))
    where
      later : (k : ℕ) → m ≤ k → (new' a : ℕ) → TakesStep entries k a (Exchange slot old new') (Whether true) → m < k
      later k le new' a took = elim (eqb_tells m k) [
        | inl same ↦
            let here = rw same.1 at (of_own read) in
            let e : Slot slot ≡ Exchange slot old new' = (same_step entries k op.actor a (Slot slot) (Exchange slot old new') (Number old) (Whether true) here took).1 in
            absurd (cc e)
        | inr apart ↦ let other = apart.1 in omega arith
      ]

  -- a number that was read as free was free
  was_free : (pids : Bool) (number bits m : ℕ) → bit_at bits (number % 64) ≡ 1 → TakesOwnStep entries op m (look_of pids number) (Number bits) → freedom pids (memory_at limits entries m) number ≡ 1
  was_free true number bits m bit read =
      let told = (run.each m _ read.1.entry).2 in
      let is : Number bits ≡ Number told.0 = told.2 in
      let said = told.1.says (number % 64) (omega arith) in
      sym (ap (λ j. as_number ((memory_at limits entries m).free_pids j)) (div-add-mod number 64)) ∙ sym said ∙ (let e : told.0 ≡ bits = cc in rw e bit)
  was_free false number bits m bit read =
      let told = (run.each m _ read.1.entry).2 in
      let is : Number bits ≡ Number told.0 = told.2 in
      let said = told.1.says (number % 64) (omega arith) in
      sym (ap (λ j. as_number ((memory_at limits entries m).free_rows j)) (div-add-mod number 64)) ∙ sym said ∙ (let e : told.0 ≡ bits = cc in rw e bit)

  is_taken : (b : Bool) → ◌≡◌ {A = Answer Record} (Whether false) (Whether b) → as_number b ≢ 1
  is_taken true e one = cc
  is_taken false e one = cc

  -- one that a take missed is free no more
  none_free : (pids : Bool) (number n : ℕ) → TakesOwnStep entries op n (take_of pids number) (Whether false) → freedom pids (memory_at limits entries n) number ≢ 1
  none_free true number n missed = is_taken ((memory_at limits entries n).free_pids number) (run.each n _ missed.1.entry).2
  none_free false number n missed = is_taken ((memory_at limits entries n).free_rows number) (run.each n _ missed.1.entry).2

  no_look : (pids : Bool) (number other : ℕ) → look_of pids other ≡ take_of pids number → ⊥
  no_look true number other e = cc
  no_look false number other e = cc

  pub missed_by_take : (pids : Bool) (number bits m n : ℕ) → m < n → bit_at bits (number % 64) ≡ 1 → TakesOwnStep entries op n (take_of pids number) (Whether false)
      → TakesOwnStep entries op m (look_of pids number) (Number bits) → TakesNone limits entries op m n IsTake
      → (k : ℕ) × (m < k) × (k < n) × TakenBeside pids number k
  missed_by_take pids number bits m n lt bit missed read none =
      let h = was_taken limits entries run pids number m n (omega arith) (was_free pids number bits m bit read) (none_free pids number n missed) in
      let begun : op.start < m = read.1.begun in
      let after : m < h.0 = later h.0 h.1 h.3.0 h.3.1 in
      let took : StepOf Record = take_of pids number in
      let own = λ (mine : TakesStep entries h.0 op.actor (take_of pids number) (Whether true)).
      own_between entries op h.0 n (take_of pids number) (take_of pids number) (Whether true) (Whether false) (omega arith) h.2 mine missed in
      (h.0, after, h.2, (h.3.0, (λ same. none h.0 took (Whether true) after h.2 (own (rw same at h.3.1)) (is_take pids number)), h.3.1))
    where
      later : (k : ℕ) → m ≤ k → (a : ℕ) → TakesStep entries k a (take_of pids number) (Whether true) → m < k
      later k le a took = elim (eqb_tells m k) [
        | inl same ↦
            let here = rw same.1 at (of_own read) in
            absurd (no_look pids number number (same_step entries k op.actor a (look_of pids number) (take_of pids number) (Number bits) (Whether true) here took).1)
        | inr apart ↦ let other = apart.1 in omega arith
      ]
