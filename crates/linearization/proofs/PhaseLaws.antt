-- What one more entry makes of the phase of a PID.
use Rattle.linearization.proofs.Words.{◌≡◌, ◌<◌, ◌≤◌, ℕ, suc, List, [], ◌∷◌, ◌++◌, length, true, inl, inr, arith, Limits, Record, Remove, Entry, IsChainOf, memory_of, Happens, IsStep, Answer}
use Rattle.linearization.proofs.Words.{StepOf, Exchange, ReusePids, TakePid, Memory, takes, splits, becomes_root, terms, under_root, holds, removes, merges, unterms, reuses}
use Rattle.bw_model.specs.declared.step.Link.TheVariants as link
use Rattle.deltas.specs.declared.record.Record.TheVariants as delta
use Rattle.bw_model.specs.declared.step.Answer.TheVariants.{Whether}
use Rattle.traces.specs.chain.Unheld.{IsUnheld}
use Rattle.traces.proofs.TraceLaws.{Happens-below, Happens-kept, Happens-push_cases, Happens-last}
use Rattle.linearization.specs.Links.{Installs, Wins}
use Rattle.linearization.specs.Phases.{Phase, MovesPhase, Rests, IsInPhase, KeepsPhases, cleared, owned}

module _ (limits : Limits) (entries : List Entry) (last : Entry) where
  pub Rests-kept : (m n pid : ℕ) → n ≤ length entries → Rests limits entries m n pid → Rests limits (entries ++ last ∷ []) m n pid
  Rests-kept m n pid le rests k from to low high moves = elim (Happens-push_cases moves) [
    | inl before ↦ rests k from to low high before
    | inr at ↦ let is : k ≡ length entries = at.0 in omega arith
  ]

  pub IsInPhase-kept : (n pid : ℕ) (phase : Phase) → n ≤ length entries → IsInPhase limits entries n pid phase → IsInPhase limits (entries ++ last ∷ []) n pid phase
  IsInPhase-kept n pid phase le (inl (m, from, lt, moves, rests)) = inl (m, from, lt, Happens-kept (last ∷ []) moves, Rests-kept (suc m) n pid le rests)
  IsInPhase-kept n pid phase le (inr (rests, is)) = inr (Rests-kept 0 n pid le rests, is)

  pub IsInPhase-moved : (pid : ℕ) (from to : Phase) → MovesPhase (memory_of limits entries) last pid from to → IsInPhase limits (entries ++ last ∷ []) (suc (length entries)) pid to
  IsInPhase-moved pid from to moves =
      inl (length entries, from, omega arith, Happens-last limits entries last (λ memory entry. MovesPhase memory entry pid from to) moves, λ k a b low high. absurd (omega arith))

  rests_longer : (m pid : ℕ) → Rests limits entries m (length entries) pid → ((from to : Phase) → ¬ MovesPhase (memory_of limits entries) last pid from to)
      → Rests limits (entries ++ last ∷ []) m (suc (length entries)) pid
  rests_longer m pid rests still k from to low high moves = elim (Happens-push_cases moves) [
    | inl before ↦ rests k from to low (Happens-below before) before
    | inr at ↦ still from to at.1
  ]

  pub IsInPhase-rested : (pid : ℕ) (phase : Phase) → ((from to : Phase) → ¬ MovesPhase (memory_of limits entries) last pid from to)
      → IsInPhase limits entries (length entries) pid phase → IsInPhase limits (entries ++ last ∷ []) (suc (length entries)) pid phase
  IsInPhase-rested pid phase still (inl (m, from, lt, moves, rests)) = inl (m, from, omega arith, Happens-kept (last ∷ []) moves, rests_longer (suc m) pid rests still)
  IsInPhase-rested pid phase still (inr (rests, is)) = inr (rests_longer 0 pid rests still, is)

  pub KeepsPhases-push : KeepsPhases limits entries
      → ((pid : ℕ) (from to : Phase) → MovesPhase (memory_of limits entries) last pid from to → IsInPhase limits entries (length entries) pid from)
      → ((actor pid old : ℕ) → Wins (memory_of limits entries) last actor pid old 0 link.Clear → IsInPhase limits entries (length entries) pid cleared)
      → ((pid : ℕ) (remove : Remove) (chain : List Record) → Installs (memory_of limits entries) last pid (delta.Remove remove) → IsChainOf (memory_of limits entries) pid chain → IsUnheld chain)
      → KeepsPhases limits (entries ++ last ∷ [])
  KeepsPhases-push keeps order empties takes_off = record {
    in_order = λ n pid from to moves. elim (Happens-push_cases moves) [
      | inl before ↦ IsInPhase-kept n pid from (within before) (keeps.in_order n pid from to before)
      | inr at ↦ rw (at.0) (IsInPhase-kept (length entries) pid from (omega arith) (order pid from to at.1))
    ];
    emptied = λ n actor pid old clears. elim (Happens-push_cases clears) [
      | inl before ↦ IsInPhase-kept n pid cleared (within before) (keeps.emptied n actor pid old before)
      | inr at ↦ rw (at.0) (IsInPhase-kept (length entries) pid cleared (omega arith) (empties actor pid old at.1))
    ];
    unheld = λ n pid remove chain removed. elim (Happens-push_cases removed) [
      | inl before ↦ keeps.unheld n pid remove chain before
      | inr at ↦ takes_off pid remove chain at.1.0 at.1.1
    ];
  }
    where
      within : {n : ℕ} {P : Memory → Entry → Type 0} → Happens limits entries n P → n ≤ length entries
      within {n = n} h = let lt : n < length entries = Happens-below h in omega arith

-- What moves a page is a step, and what makes it somebody's own takes it.
module _ {memory : Memory} {entry : Entry} {pid : ℕ} where
  pub moved_by_step : (from to : Phase) → MovesPhase memory entry pid from to → (actor : ℕ) × (step : StepOf Record) × (answer : Answer Record) × IsStep entry actor step answer
  moved_by_step from to (takes a is) = (a, TakePid pid, Whether true, is)
  moved_by_step from to (splits s split i at) = (i.0, Exchange s i.1 i.2, Whether true, i.3.0)
  moved_by_step from to (becomes_root i) = (i.0, Exchange 0 i.1 pid, Whether true, i.2.0)
  moved_by_step from to (terms s term i at) = (i.0, Exchange s i.1 i.2, Whether true, i.3.0)
  moved_by_step from to (under_root r c k h i j l m) = (i.0, Exchange 0 i.1 r, Whether true, i.2.0)
  moved_by_step from to (holds s hold i at) = (i.0, Exchange s i.1 i.2, Whether true, i.3.0)
  moved_by_step from to (removes remove i) = (i.0, Exchange pid i.1 i.2, Whether true, i.3.0)
  moved_by_step from to (merges s merge c i j at) = (i.0, Exchange s i.1 i.2, Whether true, i.3.0)
  moved_by_step from to (unterms s unterm i at) = (i.0, Exchange s i.1 i.2, Whether true, i.3.0)
  moved_by_step from to (reuses a w b x is in_word) = (a, ReusePids w b, x, is)

  pub is_taken : (from to : Phase) → MovesPhase memory entry pid from to → to ≡ owned → (actor : ℕ) × IsStep entry actor (TakePid pid) (Whether true)
  is_taken from to (takes a is) e = (a, is)
  is_taken from to other e = absurd (cc e)
