-- What one more entry changes.
use Rattle.std.proofs.Common.{◌≡◌, ◌<◌, ◌≤◌, ◌⊎◌, ℕ, List, [], ◌∷◌, ◌++◌, length, Some, sym, subst, inl, inr, arith, ap}
use Rattle.std.specs.Prelude.{slice_get}
use Rattle.std.proofs.lemmas.List.Sums.{fold-append}
use Rattle.tree_limits.specs.declared.limits.Limits.{Limits}
use Rattle.bw_model.specs.declared.step.Step.{Step as StepOf}
use Rattle.bw_model.specs.declared.step.Step.TheVariants.{Slot, Row, Leave}
use Rattle.bw_model.specs.declared.step.Answer.{Answer}
use Rattle.bw_model.specs.declared.step.Answer.TheVariants.{Number, Content}
use Rattle.deltas.specs.declared.record.Record.{Record}
use Rattle.deltas.specs.Memory.{Memory}
use Rattle.traces.specs.declared.trace.Entry.{Entry}
use Rattle.traces.specs.trace.Trace.{memory_of, memory_at, memory_after_entry, commands_after, command_of, TakesStep, IsStep, Happens}
use Rattle.traces.specs.discipline.Learnt.{ShowsRow, HasLearnt}
use Rattle.traces.proofs.Pushes.{slice_get-push, slice_get-push_cases, slice_get_kept, slice_get_below, take-push, take-push_whole}

pub memory_of-push : (limits : Limits) (entries : List Entry) (entry : Entry) → memory_of limits (entries ++ entry ∷ []) ≡ memory_after_entry (memory_of limits entries) entry
memory_of-push limits entries entry = fold-append _ _ entries (entry ∷ [])

pub memory_at-push : (limits : Limits) (entries more : List Entry) (n : ℕ) → n ≤ length entries → memory_at limits (entries ++ more) n ≡ memory_at limits entries n
memory_at-push limits entries more n h = ap (memory_of limits) (take-push entries more n h)

pub command_of-push : (entries : List Entry) (entry : Entry) → command_of (entries ++ entry ∷ []) ≡ commands_after (command_of entries) entry
command_of-push entries entry = fold-append _ _ entries (entry ∷ [])

module _ (entries : List Entry) (entry : Entry) where
  pub TakesStep-kept : (n actor : ℕ) (step : StepOf Record) (answer : Answer Record) → TakesStep entries n actor step answer → TakesStep (entries ++ entry ∷ []) n actor step answer
  TakesStep-kept n actor step answer h = (h.0, slice_get_kept entries (entry ∷ []) n _ h.1)

  pub TakesStep-push_cases : (n actor : ℕ) (step : StepOf Record) (answer : Answer Record) → TakesStep (entries ++ entry ∷ []) n actor step answer
      → TakesStep entries n actor step answer ⊎ ((n ≡ length entries) × IsStep entry actor step answer)
  TakesStep-push_cases n actor step answer h = elim (slice_get-push_cases entries entry n _ h.1) [ inl before ↦ inl (h.0, before) | inr last ↦ inr (last.0, (h.0, sym last.1)) ]

  pub ShowsRow-kept : (n actor row : ℕ) → ShowsRow entries n actor row → ShowsRow (entries ++ entry ∷ []) n actor row
  ShowsRow-kept n actor row (inl h) = inl (h.0, h.1, TakesStep-kept n actor _ _ h.2)
  ShowsRow-kept n actor row (inr h) = inr (h.0, h.1, TakesStep-kept n actor _ _ h.2, h.3)

  -- what an actor has learnt it keeps, unless the entry is its leave
  pub HasLearnt-kept : (actor row : ℕ) → HasLearnt entries actor row → ((answer : Answer Record) → IsStep entry actor Leave answer → ⊥) → HasLearnt (entries ++ entry ∷ []) actor row
  HasLearnt-kept actor row h stays = (
    h.0,
    ShowsRow-kept h.0 actor row h.1,
    λ later answer after leaves.
        elim (TakesStep-push_cases later actor Leave answer leaves) [ inl before ↦ h.2 later answer after before | inr last ↦ stays answer last.1 ],
  )

  -- what it has learnt it had learnt before, or the entry shows it; and the entry is no leave of its
  pub HasLearnt-push_cases : (actor row : ℕ) → HasLearnt (entries ++ entry ∷ []) actor row
      → (HasLearnt entries actor row × ((answer : Answer Record) → IsStep entry actor Leave answer → ⊥)) ⊎ ShowsRow (entries ++ entry ∷ []) (length entries) actor row
  HasLearnt-push_cases actor row (n, inl shown, stays) =
      elim (TakesStep-push_cases n actor _ _ shown.2) [
        | inl before ↦ inl (
          (n, inl (shown.0, shown.1, before), λ later answer after leaves. stays later answer after (TakesStep-kept later actor _ _ leaves)),
          λ answer leave. stays (length entries) answer (slice_get_below entries n _ before.1)
              (leave.0, rw (← leave.1) (slice_get-push entries entry)),
        )
        | inr last ↦ inr (inl (shown.0, shown.1, rw last.0 at shown.2))
      ]
  HasLearnt-push_cases actor row (n, inr shown, stays) =
      elim (TakesStep-push_cases n actor _ _ shown.2) [
        | inl before ↦ inl (
          (n, inr (shown.0, shown.1, before, shown.3), λ later answer after leaves. stays later answer after (TakesStep-kept later actor _ _ leaves)),
          λ answer leave. stays (length entries) answer (slice_get_below entries n _ before.1)
              (leave.0, rw (← leave.1) (slice_get-push entries entry)),
        )
        | inr last ↦ inr (inr (shown.0, shown.1, rw last.0 at shown.2, shown.3))
      ]

pub Happens-below : {limits : Limits} {entries : List Entry} {n : ℕ} {P : Memory → Entry → Type 0} → Happens limits entries n P → n < length entries
Happens-below {entries = entries} {n = n} h = slice_get_below entries n h.entry h.at

pub Happens-kept : {limits : Limits} {entries : List Entry} {n : ℕ} {P : Memory → Entry → Type 0} (more : List Entry) → Happens limits entries n P → Happens limits (entries ++ more) n P
Happens-kept {limits = limits} {entries = entries} {n = n} {P = P} more h =
    let lt : n < length entries = Happens-below h in
    record { entry = h.entry; at = slice_get_kept entries more n h.entry h.at; holds = rw (← memory_at-push limits entries more n (omega arith)) at h.holds }

-- what happens in the longer trace happened in the shorter one, or at the last entry
pub Happens-push_cases : {limits : Limits} {entries : List Entry} {last : Entry} {n : ℕ} {P : Memory → Entry → Type 0} → Happens limits (entries ++ last ∷ []) n P
    → Happens limits entries n P ⊎ ((n ≡ length entries) × P (memory_of limits entries) last)
Happens-push_cases {limits = limits} {entries = entries} {last = last} {n = n} {P = P} h = elim (slice_get-push_cases entries last n h.entry h.at) [
  | inl before ↦ let lt : n < length entries = slice_get_below entries n h.entry before in
      inl (record { entry = h.entry; at = before; holds = rw (memory_at-push limits entries (last ∷ []) n (omega arith)) at h.holds })
  | inr is ↦ inr (
    is.0,
    rw (ap (memory_of limits) (take-push_whole entries (last ∷ []))) at (rw is.0 at (subst (P (memory_at limits (entries ++ last ∷ []) n)) is.1 h.holds)),
  )
]

pub Happens-last : (limits : Limits) (entries : List Entry) (last : Entry) (P : Memory → Entry → Type 0) → P (memory_of limits entries) last → Happens limits (entries ++ last ∷ []) (length entries) P
Happens-last limits entries last P holds = record {
  entry = last;
  at = slice_get-push entries last;
  holds = rw (← ap (memory_of limits) (take-push_whole entries (last ∷ []))) at holds;
}
