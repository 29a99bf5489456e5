-- One more entry: the life of each page, and that nothing is used again.
use Rattle.tree_law.proofs.Words.{◌⊎◌, [], refl, Option, suc, List, true, inl, length, ◌++◌, inr, ◌∷◌, sym, ℕ, ◌≡◌, ◌∙◌, ◌<◌, arith, Command, Reply, Limits, Answer, Whether, StepOf, TakePid}
use Rattle.tree_law.proofs.Words.{Memory, Record, Remove, RemoveOf, Happens-kept, Happens-push_cases, IsChainOf, IsAnswer, memory_of, IsUnheld, Entry, Begin, Step, Wins, Installs, free}
use Rattle.tree_law.proofs.Words.{IsInPhase, MovesPhase, removes, Phase, cleared, splits, merges, becomes_root, reuses, under_root, terms, holds, unterms, PageOwner, phase_of, Happens-below}
use Rattle.bw_model.specs.declared.step.Link.TheVariants as link
use Rattle.traces.proofs.TraceLaws.{Happens-last}
use Rattle.linearization.specs.Phases.{takes, KeepsPhases}
use Rattle.linearization.proofs.PhaseLaws.{IsInPhase-moved, IsInPhase-rested, KeepsPhases-push}
use Rattle.tree_law.proofs.trace.Owned.{pushed_length}

-- a begin moves nothing
begin_still : {m : Memory} {a : ℕ} {c : Command} {pid : ℕ} {from to : Phase} → MovesPhase m (Begin a c) pid from to → ⊥
begin_still (takes b step) = let e = step.1 in cc
begin_still (splits slot split (b, old, new, won, stands) at) = let e = won.0.1 in cc
begin_still (becomes_root (b, old, won)) = let e = won.0.1 in cc
begin_still (terms slot term (b, old, new, won, stands) at) = let e = won.0.1 in cc
begin_still (under_root root chain key held (b, old, won) stands above said) = let e = won.0.1 in cc
begin_still (holds slot hold (b, old, new, won, stands) at) = let e = won.0.1 in cc
begin_still (removes remove (b, old, new, won, stands)) = let e = won.0.1 in cc
begin_still (merges slot merge chain (b, old, new, won, stands) stood right) = let e = won.0.1 in cc
begin_still (unterms slot unterm (b, old, new, won, stands) at) = let e = won.0.1 in cc
begin_still (reuses b word bits answer step among) = let e = step.1 in cc

-- a move leaves its phase
moves_on : {m : Memory} {entry : Entry} {pid : ℕ} {from to : Phase} → MovesPhase m entry pid from to → from ≡ to → ⊥
moves_on (takes b step) e = cc
moves_on m e = cc

-- what leaves the free ones is taken from them
taken_from : {m : Memory} {a : ℕ} {s : StepOf Record} {x : Answer Record} {r : Option Reply} {pid : ℕ} {from to : Phase}
    → MovesPhase m (Step a s x r) pid from to → from ≡ free → IsAnswer m s x → m.free_pids pid ≡ true
taken_from {m} {a} {s} {x} {r} {pid} (takes b step) e is =
    let f = step.1 in
    let i : s ≡ TakePid pid = cc in
    let j : x ≡ Whether true = cc in
    let says : x ≡ Whether (m.free_pids pid) = rw i at is in
    cc (says, j)
taken_from (splits slot split installs at) e is = absurd (cc)
taken_from m e is = absurd (cc)

-- a PID that is not free is one of the stated number
pub pid_below_after : {m : Memory} {a : ℕ} {s : StepOf Record} {x : Answer Record} {r : Option Reply} (limits : Limits) (f f' : ℕ → PageOwner) → IsAnswer m s x
    → ((pid : ℕ) → MovesPhase m (Step a s x r) pid (phase_of (f pid)) (phase_of (f' pid)) ⊎ (phase_of (f' pid) ≡ phase_of (f pid)))
    → ((pid : ℕ) → m.free_pids pid ≡ true → (0 < pid) × (pid < limits.pids)) → ((pid : ℕ) → (phase_of (f pid) ≡ free) ⊎ ((0 < pid) × (pid < limits.pids)))
    → (pid : ℕ) → (phase_of (f' pid) ≡ free) ⊎ ((0 < pid) × (pid < limits.pids))
pid_below_after limits f f' is cases below old pid = elim (old pid) [
  | inr lt ↦ inr lt
  | inl was ↦ elim (cases pid) [ inl moves ↦ inr (below pid (taken_from moves was is)) | inr same ↦ inl (same ∙ was) ]
]

module _ (limits : Limits) (entries : List Entry) where
  pub begins_in_phase : (a : ℕ) (c : Command) (pid : ℕ) (phase : Phase) → IsInPhase limits entries (length entries) pid phase
      → IsInPhase limits (entries ++ Begin a c ∷ []) (length (entries ++ Begin a c ∷ [])) pid phase
  begins_in_phase a c pid phase h = rw pushed_length (IsInPhase-rested limits entries (Begin a c) pid phase (λ from to moves. begin_still moves) h)

  pub begins_phases : (a : ℕ) (c : Command) → KeepsPhases limits entries → KeepsPhases limits (entries ++ Begin a c ∷ [])
  begins_phases a c keeps =
      KeepsPhases-push limits entries (Begin a c) keeps (λ pid from to moves. absurd (begin_still moves)) (λ b pid old won. absurd (cc won.0.1))
      (λ pid remove chain installs stands. absurd (cc installs.3.0.1))

  module _ (last : Entry) (f f' : ℕ → PageOwner) (before : (pid : ℕ) → IsInPhase limits entries (length entries) pid (phase_of (f pid)))
      (between : (pid : ℕ) (from to : Phase) → MovesPhase (memory_of limits entries) last pid from to → (phase_of (f pid) ≡ from) × (phase_of (f' pid) ≡ to)) where
    pub steps_in_phase : ((pid : ℕ) → MovesPhase (memory_of limits entries) last pid (phase_of (f pid)) (phase_of (f' pid)) ⊎ (phase_of (f' pid) ≡ phase_of (f pid)))
        → (pid : ℕ) → IsInPhase limits (entries ++ last ∷ []) (length (entries ++ last ∷ [])) pid (phase_of (f' pid))
    steps_in_phase cases pid = rw pushed_length (elim (cases pid) [
      | inl moves ↦ IsInPhase-moved limits entries last pid (phase_of (f pid)) (phase_of (f' pid)) moves
      | inr same ↦ rw same (IsInPhase-rested limits entries last pid (phase_of (f pid)) (λ from to moves. let b = between pid from to moves in moves_on moves (sym b.0 ∙ sym same ∙ b.1)) (before pid))
    ])

    -- a phase in which a PID is is the one that its owner says
    pub only_after : ((pid : ℕ) → MovesPhase (memory_of limits entries) last pid (phase_of (f pid)) (phase_of (f' pid)) ⊎ (phase_of (f' pid) ≡ phase_of (f pid)))
        → ((pid : ℕ) (phase : Phase) → IsInPhase limits entries (length entries) pid phase → phase ≡ phase_of (f pid))
        → (pid : ℕ) (phase : Phase) → IsInPhase limits (entries ++ last ∷ []) (suc (length entries)) pid phase → phase ≡ phase_of (f' pid)
    only_after cases only pid phase (inl (n, from, lt, moves, rests)) = elim (Happens-push_cases moves) [
      | inr at ↦ sym (between pid from phase at.1).1
      | inl before ↦
          let below : n < length entries = Happens-below before in
          rested pid phase (cases pid)
          (λ one two mv. rests (length entries) one two (omega arith) (omega arith) (Happens-last limits entries last (λ memory entry. MovesPhase memory entry pid one two) mv))
          (only pid phase (inl (n, from, below, before, λ k one two low high mv. rests k one two low (omega arith) (Happens-kept (last ∷ []) mv))))
    ]
      where
        rested : (pid : ℕ) (phase : Phase) → MovesPhase (memory_of limits entries) last pid (phase_of (f pid)) (phase_of (f' pid)) ⊎ (phase_of (f' pid) ≡ phase_of (f pid))
            → ((one two : Phase) → MovesPhase (memory_of limits entries) last pid one two → ⊥) → phase ≡ phase_of (f pid) → phase ≡ phase_of (f' pid)
        rested pid phase (inl mv) never e = absurd (never (phase_of (f pid)) (phase_of (f' pid)) mv)
        rested pid phase (inr same) never e = e ∙ sym same
    only_after cases only pid phase (inr (rests, is)) = elim (cases pid) [
      | inl mv ↦ absurd (rests (length entries) (phase_of (f pid)) (phase_of (f' pid)) (omega arith) (omega arith)
          (Happens-last limits entries last (λ memory entry. MovesPhase memory entry pid (phase_of (f pid)) (phase_of (f' pid))) mv))
      | inr same ↦ only pid phase (inr ((λ k one two low high mv. rests k one two low (omega arith) (Happens-kept (last ∷ []) mv)), is)) ∙ sym same
    ]

    pub steps_phases : KeepsPhases limits entries → ((b pid old : ℕ) → Wins (memory_of limits entries) last b pid old 0 link.Clear → phase_of (f pid) ≡ cleared)
        → ((pid : ℕ) (remove : RemoveOf) (chain : List Record) → Installs (memory_of limits entries) last pid (Remove remove) → IsChainOf (memory_of limits entries) pid chain → IsUnheld chain)
        → KeepsPhases limits (entries ++ last ∷ [])
    steps_phases keeps clears unheld = KeepsPhases-push limits entries last keeps
        (λ pid from to moves. rw (between pid from to moves).0 at (before pid))
        (λ b pid old won. rw (clears b pid old won) at (before pid))
        unheld

module _ (limits : Limits) (entries : List Entry) where
  pub begins_only : (a : ℕ) (c : Command) (f : ℕ → PageOwner) → ((pid : ℕ) → IsInPhase limits entries (length entries) pid (phase_of (f pid)))
      → ((pid : ℕ) (phase : Phase) → IsInPhase limits entries (length entries) pid phase → phase ≡ phase_of (f pid))
      → (pid : ℕ) (phase : Phase) → IsInPhase limits (entries ++ Begin a c ∷ []) (length (entries ++ Begin a c ∷ [])) pid phase → phase ≡ phase_of (f pid)
  begins_only a c f before only pid phase h =
      only_after limits entries (Begin a c) f f before (λ pid from to moves. absurd (begin_still moves)) (λ pid. inr refl) only pid phase (rw (pushed_length entries (Begin a c)) at h)
