-- A page that is cleared was removed.
use Rattle.progress.proofs.Words.{◌≡◌, ◌≢◌, ◌<◌, ◌⊎◌, ℕ, List, Bool, true, false, refl, subst, inl, inr, arith, if◌then◌else◌, ◌==◌, ⊤, Limits, Memory, Entry, Happens, takes, removes, merges}
use Rattle.progress.proofs.Words.{unterms, reuses, Phase, MovesPhase, MovesAt, IsInPhase, KeepsPhases, free, owned, cleared}
use Rattle.deltas.specs.declared.record.Record.TheVariants as delta
use Rattle.deltas.specs.declared.record.Remove.{Remove}
use Rattle.linearization.specs.Links.{Installs}
use Rattle.linearization.specs.Phases.{first_phase, indexed, removed, merged}

-- the phase in which a move to each one started, where it was one alone; and what removed a page
abbrev pub CameBy : Memory → Entry → ℕ → Phase → Phase → Type 0
CameBy memory entry pid from free = from ≡ cleared
CameBy memory entry pid from owned = from ≡ free
CameBy memory entry pid from removed = (remove : Remove) × Installs memory entry pid (delta.Remove remove)
CameBy memory entry pid from merged = from ≡ removed
CameBy memory entry pid from cleared = from ≡ merged
CameBy memory entry pid from to = ⊤

module _ {memory : Memory} {entry : Entry} {pid : ℕ} where
  pub came_by : (from to : Phase) → MovesPhase memory entry pid from to → CameBy memory entry pid from to
  came_by from to (takes a is) = refl
  came_by from to (removes remove i) = (remove, i)
  came_by from to (merges s merge c i j at) = refl
  came_by from to (unterms s unterm i at) = refl
  came_by from to (reuses a w b x is in_word) = refl
  came_by from to other = tt

-- no page begins removed, merged or cleared
pub begins_in_use : (pid : ℕ) (phase : Phase) → phase ≡ first_phase pid → (phase ≡ indexed) ⊎ (phase ≡ free)
begins_in_use pid phase = by_test (pid == 1)
  where
    by_test : (b : Bool) → phase ≡ (if b then indexed else free) → (phase ≡ indexed) ⊎ (phase ≡ free)
    by_test true e = inl e
    by_test false e = inr e

module _ (limits : Limits) (entries : List Entry) (keeps : KeepsPhases limits entries) (pid : ℕ) where
  -- a page that is in a phase in which none begins was moved to it
  was_moved : (n : ℕ) (phase : Phase) → phase ≢ indexed → phase ≢ free → IsInPhase limits entries n pid phase → (m : ℕ) × (from : Phase) × (m < n) × MovesAt limits entries m pid from phase
  was_moved n phase other another (inl (m, from, lt, moves, rests)) = (m, from, lt, moves)
  was_moved n phase other another (inr (rests, is)) = elim (begins_in_use pid phase is) [ inl e ↦ absurd (other e) | inr e ↦ absurd (another e) ]

  -- the move to the phase started in this one
  pub came_from : (m : ℕ) (from to before : Phase) → ((memory : Memory) (entry : Entry) → MovesPhase memory entry pid from to → from ≡ before) → MovesAt limits entries m pid from to
      → IsInPhase limits entries m pid before
  came_from m from to before is moves = subst (IsInPhase limits entries m pid) (is _ _ moves.holds) (keeps.in_order m pid from to moves)

  pub was_removed : (n : ℕ) → IsInPhase limits entries n pid cleared
      → (m : ℕ) × (m < n) × ((remove : Remove) × Happens limits entries m (λ memory entry. Installs memory entry pid (delta.Remove remove)))
  was_removed n at =
      let third = was_moved n cleared (λ e. cc e) (λ e. cc e) at in
      let second = was_moved third.0 merged (λ e. cc e) (λ e. cc e) (came_from third.0 third.1 cleared merged (λ memory entry. came_by third.1 cleared) third.3) in
      let first = was_moved second.0 removed (λ e. cc e) (λ e. cc e) (came_from second.0 second.1 merged removed (λ memory entry. came_by second.1 merged) second.3) in
      let installs = came_by first.1 removed first.3.holds in
      let a : third.0 < n = third.2 in
      let b : second.0 < third.0 = second.2 in
      let c : first.0 < second.0 = first.2 in
      (first.0, omega arith, (installs.0, record { entry = first.3.entry; at = first.3.at; holds = installs.1 }))
