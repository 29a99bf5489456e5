-- Where a slot has another number than it had, or a number is free no more, a step in between has changed that.
use Rattle.progress.proofs.Words.{◌≡◌, ◌≢◌, ◌<◌, ◌≤◌, ◌⊎◌, ℕ, zero, suc, List, Option, None, Some, Bool, true, false, refl, sym, ap, ◌∙◌, inl, inr, arith, cases_lt, eqb_tells, if◌then◌else◌}
use Rattle.progress.proofs.Words.{slice_get, ◌==◌, ◌||◌, Limits, Answer, Whether, StepOf, Memory, Record, Entry, Begin, Step, IsRun, IsAnswer, memory_after, TakesStep, memory_at, memory_of}
use Rattle.progress.proofs.Words.{take_past, Exchange, TakePid, TakeRow}
use Rattle.bw_model.specs.declared.step.Step.TheVariants.{ReusePids, ReuseRows}
use Rattle.progress.proofs.Placed.{memory_next}

-- the last place at which it was so, before one at which it isn't
pub last_so : (f : ℕ → ℕ) (v m n : ℕ) → f m ≡ v → m ≤ n → f n ≢ v → (k : ℕ) × (m ≤ k) × (k < n) × (f k ≡ v) × (f (suc k) ≢ v)
last_so f v m zero so le other = absurd (other (let at : m ≡ 0 = omega arith in rw at at so))
last_so f v m (suc n) so le other = elim (cases_lt n m) [
  | inl lt ↦ absurd (other (let at : m ≡ suc n = omega arith in rw at at so))
  | inr within ↦ elim (eqb_tells (f n) v) [
    | inl here ↦ (n, within, omega arith, here.1, other)
    | inr apart ↦ let h = last_so f v m n so within apart.1 in let lt : h.0 < n = h.2 in (h.0, h.1, omega arith, h.3, h.4)
  ]
]

-- a step that changes a slot is an exchange of it, from what it had
slot_cases : (a : ℕ) (s : StepOf Record) (m : Memory) (slot : ℕ) → ((memory_after a s m).slots slot ≡ m.slots slot) ⊎ ((new : ℕ) × (s ≡ Exchange slot (m.slots slot) new))
slot_cases a (Exchange p old new) m slot = elim (eqb_tells (m.slots p) old) [
  | inr apart ↦ inl (rw apart.0 refl)
  | inl won ↦ elim (eqb_tells slot p) [
    | inr apart ↦ inl (rw (won.0, apart.0) refl)
    | inl same ↦ inr (new, λ i. Exchange (sym same.1 i) ((sym won.1 ∙ ap m.slots (sym same.1)) i) new)
  ]
]
slot_cases a s m slot = inl refl

abbrev pub as_number : Bool → ℕ
as_number b = if b then 1 else 0

-- whether a PID, or else a row, is free, as a number
abbrev pub freedom : Bool → Memory → ℕ → ℕ
freedom true m number = as_number (m.free_pids number)
freedom false m number = as_number (m.free_rows number)

-- the step that takes one
abbrev pub take_of : Bool → ℕ → StepOf Record
take_of true number = TakePid number
take_of false number = TakeRow number

still_one : (b c : Bool) → as_number b ≡ 1 → as_number (b || c) ≡ 1
still_one true c e = refl
still_one false c e = absurd (cc e)

-- a step after which a number is free no more takes it
free_cases : (pids : Bool) (a : ℕ) (s : StepOf Record) (m : Memory) (number : ℕ) → freedom pids m number ≡ 1 → (freedom pids (memory_after a s m) number ≡ 1) ⊎ (s ≡ take_of pids number)
free_cases true a (TakePid pid) m number e = elim (eqb_tells number pid) [ inl same ↦ inr (ap TakePid (sym same.1)) | inr apart ↦ inl (rw apart.0 e) ]
free_cases true a (ReusePids word bits) m number e = inl (still_one (m.free_pids number) _ e)
free_cases true a s m number e = inl e
free_cases false a (TakeRow row) m number e = elim (eqb_tells number row) [ inl same ↦ inr (ap TakeRow (sym same.1)) | inr apart ↦ inl (rw apart.0 e) ]
free_cases false a (ReuseRows word bits) m number e = inl (still_one (m.free_rows number) _ e)
free_cases false a s m number e = inl e

module _ (limits : Limits) (entries : List Entry) (run : IsRun limits entries) where
  -- a step stands where something is changed
  changing : (f : Memory → ℕ) (v k : ℕ) → f (memory_at limits entries k) ≡ v → f (memory_at limits entries (suc k)) ≢ v
      → (a : ℕ) × (s : StepOf Record) × (x : Answer Record) × TakesStep entries k a s x × (f (memory_after a s (memory_at limits entries k)) ≢ v) × IsAnswer (memory_at limits entries k) s x
  changing f v k so other = by_entry (slice_get entries k) refl
    where
      Found : Type 0
      Found = (a : ℕ) × (s : StepOf Record) × (x : Answer Record) × TakesStep entries k a s x × (f (memory_after a s (memory_at limits entries k)) ≢ v) × IsAnswer (memory_at limits entries k) s x

      by_entry : (o : Option Entry) → slice_get entries k ≡ o → Found
      by_entry None at = absurd (other (ap (λ es. f (memory_of limits es)) (take_past entries k at) ∙ so))
      by_entry (Some (Begin a c)) at = absurd (other (ap f (memory_next limits entries k (Begin a c) at) ∙ so))
      by_entry (Some (Step a s x r)) at = (a, s, x, (r, at), λ e. other (ap f (memory_next limits entries k (Step a s x r) at) ∙ e), (run.each k (Step a s x r) at).2)

  -- a slot that had the number and has it no more was exchanged in between
  pub was_exchanged : (slot old m n : ℕ) → m ≤ n → (memory_at limits entries m).slots slot ≡ old → (memory_at limits entries n).slots slot ≢ old
      → (k : ℕ) × (m ≤ k) × (k < n) × ((a new : ℕ) × TakesStep entries k a (Exchange slot old new) (Whether true))
  was_exchanged slot old m n le was now =
      let h = last_so (λ k. (memory_at limits entries k).slots slot) old m n was le now in
      let c = changing (λ memory. memory.slots slot) old h.0 h.3 h.4 in (
        h.0,
        h.1,
        h.2,
        elim (slot_cases c.0 c.1 (memory_at limits entries h.0) slot) [
          | inl same ↦ absurd (c.4 (same ∙ h.3))
          | inr at ↦ (c.0, at.0, won c.0 c.1 c.2 h.0 at.0 h.3 at.1 c.3 c.5)
        ],
      )
    where
      won : (a : ℕ) (s : StepOf Record) (x : Answer Record) (k new : ℕ) → (memory_at limits entries k).slots slot ≡ old → s ≡ Exchange slot ((memory_at limits entries k).slots slot) new
          → TakesStep entries k a s x → IsAnswer (memory_at limits entries k) s x → TakesStep entries k a (Exchange slot old new) (Whether true)
      won a s x k new has is took told =
          let step : s ≡ Exchange slot old new = is ∙ ap (λ n. Exchange slot n new) has in
          let says : x ≡ Whether ((memory_at limits entries k).slots slot == old) = rw step at told in
          let yes : x ≡ Whether true = says ∙ ap Whether (elim (eqb_tells ((memory_at limits entries k).slots slot) old) [ inl same ↦ same.0 | inr apart ↦ absurd (apart.1 has) ]) in
          rw (← yes) (rw (← step) took)

  -- a number that was free and is so no more was taken in between
  pub was_taken : (pids : Bool) (number m n : ℕ) → m ≤ n → freedom pids (memory_at limits entries m) number ≡ 1 → freedom pids (memory_at limits entries n) number ≢ 1
      → (k : ℕ) × (m ≤ k) × (k < n) × ((a : ℕ) × TakesStep entries k a (take_of pids number) (Whether true))
  was_taken pids number m n le was now =
      let h = last_so (λ k. freedom pids (memory_at limits entries k) number) 1 m n was le now in
      let c = changing (λ memory. freedom pids memory number) 1 h.0 h.3 h.4 in (
        h.0,
        h.1,
        h.2,
        elim (free_cases pids c.0 c.1 (memory_at limits entries h.0) number h.3) [
          | inl still ↦ absurd (c.4 still)
          | inr at ↦ (c.0, got pids c.0 c.1 c.2 h.0 h.3 at c.3 c.5)
        ],
      )
    where
      yes : (b : Bool) → as_number b ≡ 1 → b ≡ true
      yes true e = refl
      yes false e = absurd (cc e)

      got : (pids : Bool) (a : ℕ) (s : StepOf Record) (x : Answer Record) (k : ℕ) → freedom pids (memory_at limits entries k) number ≡ 1 → s ≡ take_of pids number
          → TakesStep entries k a s x → IsAnswer (memory_at limits entries k) s x → TakesStep entries k a (take_of pids number) (Whether true)
      got true a s x k free is took told =
          let says : x ≡ Whether ((memory_at limits entries k).free_pids number) = rw is at told in
          rw (← (says ∙ ap Whether (yes ((memory_at limits entries k).free_pids number) free))) (rw (← is) took)
      got false a s x k free is took told =
          let says : x ≡ Whether ((memory_at limits entries k).free_rows number) = rw is at told in
          rw (← (says ∙ ap Whether (yes ((memory_at limits entries k).free_rows number) free))) (rw (← is) took)
