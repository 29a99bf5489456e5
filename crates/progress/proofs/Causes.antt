-- A reader's step is no cause, where nobody has placed a removal.
use Rattle.progress.proofs.Words.{◌≡◌, ◌<◌, ◌≤◌, ◌+◌, ◌*◌, ℕ, List, [], ◌∷◌, length, take, false, Some, refl, ap, ◌∙◌, inl, inr, arith, All-head, All, Limits, is_writer, Record, Entry}
use Rattle.progress.proofs.Words.{cause_worth, IsRun, memory_at, IsOperation, Operation, TakesOwnStep, KeepsPhases, PlacesNoRemoval, steps_from, Content, IsCause, IsDirect}
use Rattle.bw_model.specs.declared.step.Step.TheVariants.{Row}
use Rattle.deltas.specs.declared.record.Record.TheVariants as delta
use Rattle.linearization.specs.Direct.{Meets}
use Rattle.linearization.specs.UntilRemoval.{ReadersEndUntilRemoval}
use Rattle.progress.proofs.Cleared.{was_removed}
use Rattle.progress.proofs.Placed.{none_stands}

-- the record that an operation reads stands in the row
pub stands_read : (limits : Limits) (entries : List Entry) → IsRun limits entries → (op : Operation) (n row : ℕ) (content : Record) → TakesOwnStep entries op n (Row row) (Content content)
    → (memory_at limits entries n).rows row ≡ Some content
stands_read limits entries run op n row content took =
    let told = (run.each n _ took.1.entry).2 in
    let same : Content content ≡ Content told.0 = told.2 in
    told.1 ∙ ap Some (let e : told.0 ≡ content = cc in e)

module _ (limits : Limits) (entries : List Entry) (run : IsRun limits entries) (keeps : KeepsPhases limits entries) (direct : IsDirect limits entries)
    (op : Operation) (begun : IsOperation entries op) (n : ℕ) (none : PlacesNoRemoval (take n entries)) where
  -- nothing that is removed is met
  pub meets_none : (c : ℕ) → c ≤ n → Meets limits entries op c → ⊥
  meets_none c le (m, root, lt, at, last, inl (row, remove, took, first)) = none_stands limits entries c n row remove le none (stands_read limits entries run op c row (delta.Remove remove) took)
  meets_none c le (m, root, lt, at, last, inr (pid, row, k, content, took, first, low, high, above, names)) =
      let gone = was_removed limits entries keeps pid c (direct.emptied op c pid begun took) in
      let installs = gone.2.1.holds in
      let early : gone.0 < c = gone.1 in
      none_stands limits entries gone.0 n installs.2 gone.2.0 (omega arith) none installs.4

  pub no_cause : is_writer op.command ≡ false → (c : ℕ) → c ≤ n → IsCause limits entries op c → ⊥
  no_cause reader c le (inl h) = direct.reads op c _ _ begun reader h.1.3
  no_cause reader c le (inr (inl loses)) = direct.reads op c _ _ begun reader loses.4
  no_cause reader c le (inr (inr (inl (item, bits, m, lt, bit, calm, inl took)))) = direct.reads op c _ _ begun reader took.0
  no_cause reader c le (inr (inr (inl (item, bits, m, lt, bit, calm, inr took)))) = direct.reads op c _ _ begun reader took.0
  no_cause reader c le (inr (inr (inr meets))) = meets_none c le meets

-- where no place can be one, there is none
none_listed : (P : ℕ → Type 0) (places : List ℕ) → ((place : ℕ) → P place → ⊥) → All P places → length places ≡ 0
none_listed P [] never all = refl
none_listed P (place ∷ places) never all = absurd (never place (All-head P place places all))

pub readers_end : (limits : Limits) (entries : List Entry) → IsRun limits entries → KeepsPhases limits entries → IsDirect limits entries → ReadersEndUntilRemoval limits entries
readers_end limits entries run keeps direct = record {
  few = λ op n begun reader own none.
      let h = direct.few op n begun own in
      let empty : length h.0 ≡ 0 = none_listed (λ c. (c ≤ n) × IsCause limits entries op c) h.0 (λ c is. no_cause limits entries run keeps direct op begun n none reader c is.0 is.1) h.2 in
      let paid : steps_from entries op.actor op.start n ≤ cause_worth limits * (length h.0 + 1) = h.3 in
      once_more (steps_from entries op.actor op.start n) (cause_worth limits) (length h.0) empty paid;
}
  where
    once_more : (steps worth causes : ℕ) → causes ≡ 0 → steps ≤ worth * (causes + 1) → steps ≤ worth
    once_more steps worth causes e paid = let h : steps ≤ worth * (0 + 1) = rw e at paid in omega arith
