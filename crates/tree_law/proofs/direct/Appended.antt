-- One more entry: what it leaves known and recalled, and which operation is its actor's last.
use Rattle.tree_law.proofs.Words.{◌⊎◌, [], ap, Option, List, inl, length, ◌++◌, ◌≤◌, inr, ◌∷◌, sym, ℕ, ◌≡◌, ◌∙◌, ◌<◌, arith, Some, fold-append, Command, Reply, Limits, Answer, StepOf, Record}
use Rattle.tree_law.proofs.Words.{slice_get_below, slice_get_kept, slice_get-push_cases, slice_get-push, take-push, take-push_whole, knows, knows_after, recalls_after, recalls, memory_at, memory_of}
use Rattle.tree_law.proofs.Words.{Entry, Begin, Step, IsOperation, Operation, TakesOwnStep, IsLast, IsUnended}
use Rattle.tree_law.proofs.trace.Owned.{operation_old, own_cases, takes_new}

module _ (entries : List Entry) (last : Entry) where
  abbrev longer : List Entry
  longer = entries ++ last ∷ []

  pub knows-push : knows longer ≡ knows_after (knows entries) last
  knows-push = fold-append _ _ entries (last ∷ [])

  pub recalls-push : recalls longer ≡ recalls_after (recalls entries) last
  recalls-push = fold-append _ _ entries (last ∷ [])

  pub memory_kept : (limits : Limits) (n : ℕ) → n ≤ length entries → memory_at limits longer n ≡ memory_at limits entries n
  memory_kept limits n le = ap (memory_of limits) (take-push entries (last ∷ []) n le)

  -- before the last entry stands the memory of the entries before it
  pub memory_last : (limits : Limits) → memory_at limits longer (length entries) ≡ memory_of limits entries
  memory_last limits = ap (memory_of limits) (take-push_whole entries (last ∷ []))

  pub takes_below : (op : Operation) (n : ℕ) (step : StepOf Record) (answer : Answer Record) → TakesOwnStep entries op n step answer → n < length entries
  takes_below op n step answer took = slice_get_below entries n _ took.1.entry

  -- A step of the longer trace is one of the shorter, or the last entry is it, and the operation is its actor's last before it.
  pub takes_cases : (op : Operation) (n : ℕ) (step : StepOf Record) (answer : Answer Record) → TakesOwnStep longer op n step answer
      → TakesOwnStep entries op n step answer ⊎ ((n ≡ length entries) × ((reply : Option Reply) × (last ≡ Step op.actor step answer reply)) × IsUnended entries op.start op.actor)
  takes_cases op n step answer took = elim (own_cases entries last op n step answer took.0 took.1) [ inl own ↦ inl (took.0, own) | inr at ↦ inr (at.0, (took.0, at.1), at.2) ]

  pub takes_before : (op : Operation) (n : ℕ) (step : StepOf Record) (answer : Answer Record) → n < length entries → TakesOwnStep longer op n step answer → TakesOwnStep entries op n step answer
  takes_before op n step answer below took = elim (takes_cases op n step answer took) [ inl before ↦ before | inr at ↦ let same : n ≡ length entries = at.0 in absurd (omega arith) ]

  -- the last entry is a step of its actor's last operation
  pub takes_last : (op : Operation) (step : StepOf Record) (answer : Answer Record) (reply : Option Reply) → IsLast entries op
      → last ≡ Step op.actor step answer reply → TakesOwnStep longer op (length entries) step answer
  takes_last op step answer reply latest is = takes_new entries last op.start op.actor op.command step answer reply latest.begun latest.unended is

  -- an operation that took the last entry, or any one before it, had begun before
  pub operation_before : (op : Operation) (n : ℕ) (step : StepOf Record) (answer : Answer Record) → IsOperation longer op → TakesOwnStep longer op n step answer → IsOperation entries op
  operation_before op n step answer is took = operation_old entries last op n is (step, answer, took)

  -- The last operation of the longer trace was the last of the shorter one, or the last entry begins it.
  pub last_cases : (op : Operation) → IsLast longer op → IsLast entries op ⊎ ((op.start ≡ length entries) × (last ≡ Begin op.actor op.command))
  last_cases op latest = elim (slice_get-push_cases entries last op.start _ latest.begun) [
    | inl before ↦ inl (record { begun = before; unended = λ later command low e. latest.unended later command low (slice_get_kept entries (last ∷ []) later _ e) })
    | inr at ↦ inr (at.0, sym at.1)
  ]

  -- where its actor begins one, none before it is the last
  pub last_begun : (op : Operation) (command : Command) → last ≡ Begin op.actor command → IsLast longer op → op.start ≡ length entries
  last_begun op command is latest = elim (last_cases op latest) [
    | inl before ↦ absurd (latest.unended (length entries) command (slice_get_below entries op.start _ before.begun) (slice_get-push entries last ∙ ap Some is))
    | inr at ↦ at.0
  ]
