-- One more entry: which steps are an operation's own.
use Rattle.tree_law.proofs.Words.{◌⊎◌, [], ap, Option, suc, List, true, inl, length, ◌++◌, inr, ◌∷◌, sym, ℕ, ◌≡◌, Bool, ◌∙◌, ◌<◌, arith, Some, cases_lt, slice_get, Command, Reply, Answer}
use Rattle.tree_law.proofs.Words.{StepOf, Record, slice_get_below, slice_get_kept, slice_get-push_cases, slice_get-push, Entry, Begin, Step, IsOperation, Operation, IsOwnStep, TakesOwnStep, IsPoint}
use Rattle.tree_law.proofs.Words.{operation_from, IsUnended}
use Rattle.traces.proofs.Pushes.{slice_get-append_left}
pub use Rattle.traces.proofs.Pushes.{pushed_length}
use Rattle.linearization.specs.Operations.{IsOwnEntry}

pub same_start : (entries : List Entry) (s t a : ℕ) (c d : Command) → slice_get entries s ≡ Some (Begin a c) → slice_get entries t ≡ Some (Begin a d)
    → IsUnended entries s a → IsUnended entries t a → s ≡ t
same_start entries s t a c d e f us ut = elim (cases_lt s t) [
  | inl lt ↦ absurd (us t d lt f)
  | inr le ↦ elim (cases_lt t s) [ inl lt ↦ absurd (ut s c lt e) | inr ge ↦ omega arith ]
]

pub point_below : (points : List Bool) (mark : Bool) (n : ℕ) → n < length points → IsPoint (points ++ mark ∷ []) n → IsPoint points n
point_below points mark n lt e = sym (slice_get-append_left points (mark ∷ []) n lt) ∙ e

pub point_last : (points : List Bool) (mark : Bool) (n : ℕ) → n ≡ length points → IsPoint (points ++ mark ∷ []) n → mark ≡ true
point_last points mark n at e = let h : slice_get (points ++ mark ∷ []) n ≡ Some mark = rw at (slice_get-push points mark) in cc

module _ (entries : List Entry) (last : Entry) where
  abbrev longer : List Entry
  longer = entries ++ last ∷ []

  pub own_kept : (op : Operation) (n : ℕ) (step : StepOf Record) (answer : Answer Record) (reply : Option Reply) → IsOwnEntry entries op n step answer reply → IsOwnEntry longer op n step answer reply
  own_kept op n step answer reply h = record {
    begun = h.begun;
    entry = slice_get_kept entries (last ∷ []) n _ h.entry;
    not_ended = λ later c low high e. elim (slice_get-push_cases entries last later _ e) [
      | inl before ↦ h.not_ended later c low high before
      | inr at ↦ let lt : n < length entries = slice_get_below entries n _ h.entry in let same : later ≡ length entries = at.0 in absurd (omega arith)
    ];
  }

  pub own_step_kept : (op : Operation) (n : ℕ) → IsOwnStep entries op n → IsOwnStep longer op n
  own_step_kept op n h = (h.0, h.1, (h.2.0, own_kept op n h.0 h.1 h.2.0 h.2.1))

  pub own_cases : (op : Operation) (n : ℕ) (step : StepOf Record) (answer : Answer Record) (reply : Option Reply) → IsOwnEntry longer op n step answer reply
      → IsOwnEntry entries op n step answer reply ⊎ ((n ≡ length entries) × (last ≡ Step op.actor step answer reply) × IsUnended entries op.start op.actor)
  own_cases op n step answer reply h = elim (slice_get-push_cases entries last n _ h.entry) [
    | inl before ↦ inl (record { begun = h.begun; entry = before; not_ended = λ later c low high e. h.not_ended later c low high (slice_get_kept entries (last ∷ []) later _ e) })
    | inr at ↦ inr (
      at.0,
      sym at.1,
      λ later c low e. let lt : later < length entries = slice_get_below entries later _ e in let same : n ≡ length entries = at.0
          in h.not_ended later c low (omega arith) (slice_get_kept entries (last ∷ []) later _ e),
    )
  ]

  pub step_cases : (op : Operation) (n : ℕ) → IsOwnStep longer op n
      → IsOwnStep entries op n ⊎
      ((n ≡ length entries) × ((step : StepOf Record) × (answer : Answer Record) × (reply : Option Reply) × (last ≡ Step op.actor step answer reply)) × IsUnended entries op.start op.actor)
  step_cases op n h = elim (own_cases op n h.0 h.1 h.2.0 h.2.1) [ inl own ↦ inl (h.0, h.1, (h.2.0, own)) | inr at ↦ inr (at.0, (h.0, h.1, h.2.0, at.1), at.2) ]

  pub step_below : (op : Operation) (n : ℕ) → IsOwnStep entries op n → n < length entries
  step_below op n h = slice_get_below entries n _ h.2.1.entry

  pub takes_new : (start a : ℕ) (c : Command) (step : StepOf Record) (answer : Answer Record) (reply : Option Reply)
      → slice_get entries start ≡ Some (Begin a c) → IsUnended entries start a → last ≡ Step a step answer reply
      → TakesOwnStep longer (operation_from start a c) (length entries) step answer
  takes_new start a c step answer reply begins unended is = (
    reply,
    record {
      begun = slice_get_below entries start _ begins;
      entry = slice_get-push entries last ∙ ap Some is;
      not_ended =
          λ later d low high e. elim (slice_get-push_cases entries last later _ e)
          [ inl before ↦ unended later d low before | inr at ↦ let same : later ≡ length entries = at.0 in absurd (omega arith) ];
    },
  )

  pub own_new : (start a : ℕ) (c : Command) (step : StepOf Record) (answer : Answer Record) (reply : Option Reply) → slice_get entries start ≡ Some (Begin a c)
      → IsUnended entries start a → last ≡ Step a step answer reply
      → IsOwnStep longer (operation_from start a c) (length entries)
  own_new start a c step answer reply begins unended is = (step, answer, takes_new start a c step answer reply begins unended is)

  pub unended_kept : (start a : ℕ) → IsUnended entries start a → ((c : Command) → last ≡ Begin a c → ⊥) → IsUnended longer start a
  unended_kept start a u never later c low e = elim (slice_get-push_cases entries last later _ e) [ inl before ↦ u later c low before | inr at ↦ never c (sym at.1) ]

  -- an operation that has taken a step began before the last entry
  pub operation_old : (op : Operation) (n : ℕ) → IsOperation longer op → IsOwnStep longer op n → IsOperation entries op
  operation_old op n is own = elim (slice_get-push_cases entries last op.start _ is) [
    | inl before ↦ before
    | inr at ↦
        let lt : n < length longer = slice_get_below longer n _ own.2.1.entry in
        let begun : op.start < n = own.2.1.begun in
        let same : op.start ≡ length entries = at.0 in
        let long : length longer ≡ suc (length entries) = pushed_length entries last in
        absurd (omega arith)
  ]
