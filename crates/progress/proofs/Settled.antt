-- A page of the tree is nobody's own later, where nobody has placed a removal.
use Rattle.progress.proofs.Words.{◌≡◌, ◌≢◌, ◌<◌, ◌≤◌, ℕ, List, true, Some, take, refl, sym, ap, ◌∙◌, inl, inr, arith, cases_lt, eqb_tells, slice_get, Limits, Whether, TakePid, Memory}
use Rattle.progress.proofs.Words.{Entry, IsInPhase, KeepsPhases, MovesAt, MovesPhase, Phase, cleared, free, owned, takes, splits, becomes_root, terms, under_root, holds, removes, merges}
use Rattle.progress.proofs.Words.{unterms, reuses, PlacesNoRemoval}
use Rattle.traces.specs.trace.Trace.{IsStep}
use Rattle.linearization.proofs.PhaseLaws.{is_taken}
use Rattle.progress.proofs.Cleared.{begins_in_use, came_by, came_from, was_removed}
use Rattle.progress.proofs.Placed.{none_stands}

module _ {memory : Memory} {entry : Entry} {pid : ℕ} where
  -- what takes a page makes it nothing else
  taken_only : (from to : Phase) → MovesPhase memory entry pid from to → (a : ℕ) → IsStep entry a (TakePid pid) (Whether true) → to ≡ owned
  taken_only from to (takes a is) b took = refl
  taken_only from to (splits s split i at) b took = absurd (let e = i.3.0.1 in let f = took.1 in cc)
  taken_only from to (becomes_root i) b took = absurd (let e = i.2.0.1 in let f = took.1 in cc)
  taken_only from to (terms s term i at) b took = absurd (let e = i.3.0.1 in let f = took.1 in cc)
  taken_only from to (under_root r c k h i j l m) b took = absurd (let e = i.2.0.1 in let f = took.1 in cc)
  taken_only from to (holds s hold i at) b took = absurd (let e = i.3.0.1 in let f = took.1 in cc)
  taken_only from to (removes remove i) b took = absurd (let e = i.3.0.1 in let f = took.1 in cc)
  taken_only from to (merges s merge c i j at) b took = absurd (let e = i.3.0.1 in let f = took.1 in cc)
  taken_only from to (unterms s unterm i at) b took = absurd (let e = i.3.0.1 in let f = took.1 in cc)
  taken_only from to (reuses a w c x is in_word) b took = absurd (let e = is.1 in let f = took.1 in cc)

module _ (limits : Limits) (entries : List Entry) (keeps : KeepsPhases limits entries) (n : ℕ) (none : PlacesNoRemoval (take n entries)) where
  -- nothing is cleared
  pub cleared_none : (k pid : ℕ) → k ≤ n → IsInPhase limits entries k pid cleared → ⊥
  cleared_none k pid le at =
      let gone = was_removed limits entries keeps pid k at in
      let installs = gone.2.1.holds in
      let early : gone.0 < k = gone.1 in
      none_stands limits entries gone.0 n installs.2 gone.2.0 (omega arith) none installs.4

  module _ (m pid : ℕ) (phase : Phase) (at_m : IsInPhase limits entries m pid phase) (not_free : phase ≢ free) (not_owned : phase ≢ owned) where
    -- it moved last before the place, as it did not then
    same_move : (i j : ℕ) (from before : Phase) → i ≡ j → MovesAt limits entries i pid before phase → MovesAt limits entries j pid from owned → ⊥
    same_move i j from before same one two =
        let took = is_taken from owned two.holds refl in
        let e : Some one.entry ≡ Some two.entry = sym one.at ∙ ap (slice_get entries) same ∙ two.at in
        let entry : two.entry ≡ one.entry = cc in
        not_owned (taken_only before phase one.holds took.0 (rw (← entry) took.1))

    free_none : (j : ℕ) → m ≤ j → j ≤ n → IsInPhase limits entries j pid free → ⊥
    free_none j le within (inl (i, from, lt, moves, rests)) = cleared_none i pid (omega arith) (came_from limits entries keeps pid i from free cleared (λ memory entry. came_by from free) moves)
    free_none j le within (inr (rests, is)) = by_first at_m
      where
        by_first : IsInPhase limits entries m pid phase → ⊥
        by_first (inl (i, from, lt, moves, calm)) = rests i from phase (omega arith) (omega arith) moves
        by_first (inr (calm, first)) = not_free (first ∙ sym is)

    pub owned_none : (k : ℕ) → m ≤ k → k ≤ n → IsInPhase limits entries k pid owned → ⊥
    owned_none k le within (inr (rests, is)) = elim (begins_in_use pid owned is) [ inl e ↦ cc e | inr e ↦ cc e ]
    owned_none k le within (inl (j, from, lt, moves, rests)) = elim (cases_lt j m) [
      | inr after ↦ free_none j after (omega arith) (came_from limits entries keeps pid j from owned free (λ memory entry. came_by from owned) moves)
      | inl before ↦ by_last before at_m
    ]
      where
        by_last : j < m → IsInPhase limits entries m pid phase → ⊥
        by_last early (inl (i, other, low, moved, calm)) = elim (cases_lt i j) [
          | inl below ↦ calm j from owned (omega arith) early moves
          | inr ge ↦ elim (eqb_tells i j) [
            | inl same ↦ same_move i j from other same.1 moved moves
            | inr apart ↦ rests i other phase (let ne = apart.1 in omega arith) (omega arith) moved
          ]
        ]
        by_last early (inr (calm, first)) = calm j from owned (omega arith) early moves
