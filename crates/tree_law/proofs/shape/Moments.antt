-- What was so of a moment is so in a longer trace.
use Rattle.tree_law.proofs.Words.{false, [], suc, List, true, inl, length, ◌++◌, ◌≤◌, inr, ◌∷◌, ℕ, ◌≡◌, Bool, arith, Limits, memory_at-push, Happens-kept, Happens-push_cases}
use Rattle.tree_law.proofs.Words.{LivePage, memory_at, Entry, IsLeftmost, Indexes, HasPhaseOfTerm, indexed, IsInPhase, Phase, held, removed, merged, Key}
use Rattle.linearization.specs.Index.{IsPageAt}
use Rattle.linearization.specs.Phases.{Rests}
use Rattle.linearization.proofs.PhaseLaws.{IsInPhase-kept}

module _ (limits : Limits) (entries : List Entry) (last : Entry) where
  abbrev longer : List Entry
  longer = entries ++ last ∷ []

  pub same_memory : (n : ℕ) → n ≤ length entries → memory_at limits (entries ++ last ∷ []) n ≡ memory_at limits entries n
  same_memory n le = memory_at-push limits entries (last ∷ []) n le

  rests_before : (m n pid : ℕ) → Rests limits longer m n pid → Rests limits entries m n pid
  rests_before m n pid rests k from to low high moves = rests k from to low high (Happens-kept (last ∷ []) moves)

  pub in_phase_before : (n pid : ℕ) (phase : Phase) → n ≤ length entries → IsInPhase limits (entries ++ last ∷ []) n pid phase → IsInPhase limits entries n pid phase
  in_phase_before n pid phase le (inl (m, from, lt, moves, rests)) = elim (Happens-push_cases moves) [
    | inl before ↦ inl (m, from, lt, before, rests_before (suc m) n pid rests)
    | inr at ↦ let is : m ≡ length entries = at.0 in absurd (omega arith)
  ]
  in_phase_before n pid phase le (inr (rests, is)) = inr (rests_before 0 n pid rests, is)

  term_kept : (n child : ℕ) (is_held : Bool) → n ≤ length entries → HasPhaseOfTerm limits entries n child is_held → HasPhaseOfTerm limits longer n child is_held
  term_kept n child false le h = IsInPhase-kept limits entries last n child indexed le h
  term_kept n child true le (inl h) = inl (IsInPhase-kept limits entries last n child held le h)
  term_kept n child true le (inr (inl h)) = inr (inl (IsInPhase-kept limits entries last n child removed le h))
  term_kept n child true le (inr (inr h)) = inr (inr (IsInPhase-kept limits entries last n child merged le h))

  term_before : (n child : ℕ) (is_held : Bool) → n ≤ length entries → HasPhaseOfTerm limits longer n child is_held → HasPhaseOfTerm limits entries n child is_held
  term_before n child false le h = in_phase_before n child indexed le h
  term_before n child true le (inl h) = inl (in_phase_before n child held le h)
  term_before n child true le (inr (inl h)) = inr (inl (in_phase_before n child removed le h))
  term_before n child true le (inr (inr h)) = inr (inr (in_phase_before n child merged le h))

  -- the first page of a level stays so at each later moment
  pub leftmost_later : (n later level pid : ℕ) → n ≤ length entries → n ≤ later → IsLeftmost limits entries n level pid → IsLeftmost limits (entries ++ last ∷ []) later level pid
  leftmost_later n later level pid le up (m, low, at, root, first) = (
    m,
    omega arith,
    rw (same_memory m (omega arith)) at,
    rw (same_memory m (omega arith)) root,
    λ earlier lt h. first earlier lt (rw (same_memory earlier (omega arith)) at h),
  )

  -- the index of a moment is the same in the longer trace
  pub indexes_kept : (n level : ℕ) (above : List LivePage) → n ≤ length entries → Indexes limits entries n level above → Indexes limits (entries ++ last ∷ []) n level above
  indexes_kept n level above le h = record {
    pages = (h.pages.0, leftmost_later n n (suc level) h.pages.0 le (omega arith) h.pages.1, rw (same_memory n le) h.pages.2);
    whole = h.whole;
    terms = λ key child is_held. (
      λ t. let f = (h.terms key child is_held).0 t in (page_kept key child f.0, term_kept n child is_held le f.1),
      λ t. (h.terms key child is_held).1 (page_before key child t.0, term_before n child is_held le t.1),
    );
  }
    where
      page_kept : (key : Key) (child : ℕ) → IsPageAt limits entries n level key child → IsPageAt limits longer n level key child
      page_kept key child (chain, is, on, low) = (chain, rw (same_memory n le) is, on, low)

      page_before : (key : Key) (child : ℕ) → IsPageAt limits longer n level key child → IsPageAt limits entries n level key child
      page_before key child (chain, is, on, low) = (chain, rw (same_memory n le) at is, on, low)
