-- A record that stands in a row was placed there, or stood there from the beginning.
use Rattle.progress.proofs.Words.{◌≡◌, ◌<◌, ◌≤◌, ◌⊎◌, ℕ, zero, suc, List, Option, None, Some, Bool, true, false, take, refl, sym, ap, ◌∙◌, inl, inr, arith, eqb_tells, same_Some, if◌then◌else◌}
use Rattle.progress.proofs.Words.{slice_get, ◌==◌, Limits, Answer, StepOf, Place, Record, Entry, Begin, Step, memory_after, TakesStep, memory_after_entry, memory_at, memory_of, get_take}
use Rattle.progress.proofs.Words.{take_past, memory_of-push, take-one, PlacesNoRemoval, Memory}
use Rattle.base_page.specs.Pages.{empty_leaf}
use Rattle.deltas.specs.Memory.{opening}
use Rattle.deltas.specs.declared.record.Record.TheVariants as delta
use Rattle.deltas.specs.declared.record.Remove.{Remove}

-- the memory before one step, from that before the step before
pub memory_next : (limits : Limits) (entries : List Entry) (n : ℕ) (entry : Entry) → slice_get entries n ≡ Some entry
    → memory_at limits entries (suc n) ≡ memory_after_entry (memory_at limits entries n) entry
memory_next limits entries n entry e = ap (memory_of limits) (take-one entries n entry e) ∙ memory_of-push limits (take n entries) entry

-- a step that leaves a record in a row places it there, or leaves it as it was
row_cases : (a : ℕ) (s : StepOf Record) (m : Memory) (row : ℕ) (content : Record) → (memory_after a s m).rows row ≡ Some content → (m.rows row ≡ Some content) ⊎ (s ≡ Place row content)
row_cases a (Place r w) m row content e = elim (eqb_tells row r) [
  | inl same ↦ inr (let f : Some w ≡ Some content = rw same.0 at e in let g : w ≡ content = same_Some w content f in λ i. Place (sym same.1 i) (g i))
  | inr apart ↦ inl (rw apart.0 at e)
]
row_cases a s m row content e = inl e

module _ (limits : Limits) (entries : List Entry) (row : ℕ) (content : Record) where
  -- somebody placed the record in the row before the step
  abbrev pub WasPlaced : ℕ → Type 0
  WasPlaced n = (k : ℕ) × (k < n) × ((actor : ℕ) × (answer : Answer Record) × TakesStep entries k actor (Place row content) answer)

  abbrev Stands : ℕ → Type 0
  Stands n = (memory_at limits entries n).rows row ≡ Some content

  later : (n : ℕ) → ((opening limits).rows row ≡ Some content) ⊎ WasPlaced n → ((opening limits).rows row ≡ Some content) ⊎ WasPlaced (suc n)
  later n (inl first) = inl first
  later n (inr (k, lt, at)) = inr (k, omega arith, at)

  -- from before the step before
  placed_since : (n : ℕ) → ((memory_at limits entries n).rows row ≡ Some content → ((opening limits).rows row ≡ Some content) ⊎ WasPlaced n) → (o : Option Entry) → slice_get entries n ≡ o
      → Stands (suc n)
      → ((opening limits).rows row ≡ Some content) ⊎ WasPlaced (suc n)
  placed_since n before None at e = later n (before (rw (← take_past entries n at) e))
  placed_since n before (Some (Begin a c)) at e = later n (before (rw (memory_next limits entries n (Begin a c) at) at e))
  placed_since n before (Some (Step a s x r)) at e = elim (row_cases a s (memory_at limits entries n) row content (rw (memory_next limits entries n (Step a s x r) at) at e)) [
    | inl stood ↦ later n (before stood)
    | inr places ↦ inr (n, omega arith, (a, x, (r, at ∙ ap (λ t. Some (Step a t x r)) places)))
  ]

  pub was_placed : (n : ℕ) → Stands n → ((opening limits).rows row ≡ Some content) ⊎ WasPlaced n
  was_placed zero e = inl e
  was_placed (suc n) e = placed_since n (λ stood. was_placed n stood) (slice_get entries n) refl e

not_first : (limits : Limits) (row : ℕ) (remove : Remove) → (opening limits).rows row ≡ Some (delta.Remove remove) → ⊥
not_first limits row remove = by_test (row == 1)
  where
    by_test : (b : Bool) → ◌≡◌ {A = Option Record} (if b then Some (delta.Base empty_leaf) else None) (Some (delta.Remove remove)) → ⊥
    by_test true e = cc
    by_test false e = cc

-- where nobody has placed a removal before step n, none stands in a row until then
pub none_stands : (limits : Limits) (entries : List Entry) (k n row : ℕ) (remove : Remove) → k ≤ n → PlacesNoRemoval (take n entries)
    → (memory_at limits entries k).rows row ≡ Some (delta.Remove remove) → ⊥
none_stands limits entries k n row remove le none stands = elim (was_placed limits entries row (delta.Remove remove) k stands) [
  | inl first ↦ not_first limits row remove first
  | inr placed ↦
      let lt : placed.0 < k = placed.1 in
      let took = placed.2 in
      none placed.0 took.0 row remove took.1 (took.2.0, get_take entries placed.0 n (omega arith) ∙ took.2.1)
]
