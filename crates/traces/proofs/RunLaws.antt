-- A run grows by one entry at a time.
use Rattle.std.proofs.Common.{◌≡◌, ◌<◌, ◌≤◌, ℕ, zero, suc, List, [], ◌∷◌, ◌++◌, length, take, Some, sym, subst, inl, inr, arith, append_assoc}
use Rattle.std.proofs.lemmas.List.{append-nil}
use Rattle.std.specs.Prelude.{slice_get}
use Rattle.tree_limits.specs.declared.limits.Limits.{Limits}
use Rattle.traces.specs.declared.trace.Entry.{Entry}
use Rattle.traces.specs.trace.Run.{IsNext, IsRun}
use Rattle.traces.proofs.Pushes.{slice_get-push, slice_get-push_cases, slice_get_kept, slice_get_below, take-push, take-push_whole}

pub IsRun-none : (limits : Limits) → IsRun limits []
IsRun-none limits = record { each = λ n entry e. cc }

pub IsRun-push : (limits : Limits) (entries : List Entry) (last : Entry) → IsRun limits entries → IsNext limits entries last → IsRun limits (entries ++ last ∷ [])
IsRun-push limits entries last run next = record {
  each = λ n entry e. elim (slice_get-push_cases entries last n entry e) [
    | inl before ↦ rw (← take-push entries (last ∷ []) n (below n entry before)) at (run.each n entry before)
    | inr at ↦ rw (at.0, at.1, take-push_whole) next
  ];
}
  where
    below : (n : ℕ) (entry : Entry) → slice_get entries n ≡ Some entry → n ≤ length entries
    below n entry before = let lt : n < length entries = slice_get_below entries n entry before in omega arith

pub IsRun-front : (limits : Limits) (entries : List Entry) (last : Entry) → IsRun limits (entries ++ last ∷ []) → IsRun limits entries
IsRun-front limits entries last run = record {
  each = λ n entry e.
      let lt : n < length entries = slice_get_below entries n entry e in
      let le : n ≤ length entries = omega arith in
      rw (take-push entries (last ∷ []) n le) at (run.each n entry (slice_get_kept entries (last ∷ []) n entry e));
}

pub IsRun-last : (limits : Limits) (entries : List Entry) (last : Entry) → IsRun limits (entries ++ last ∷ []) → IsNext limits entries last
IsRun-last limits entries last run = rw (take-push_whole entries (last ∷ [])) at (run.each (length entries) last (slice_get-push entries last))

-- each entry may stand after those before it
abbrev pub EachNext : Limits → List Entry → List Entry → Type 0
EachNext limits before [] = Unit {0}
EachNext limits before (entry ∷ entries) = IsNext limits before entry × EachNext limits (before ++ entry ∷ []) entries

next_along : (limits : Limits) (before entries : List Entry) → EachNext limits before entries → (n : ℕ) (entry : Entry) → slice_get entries n ≡ Some entry
    → IsNext limits (before ++ take n entries) entry
next_along limits before [] h n entry e = cc
next_along limits before (first ∷ entries) h zero entry e = rw append-nil (subst (IsNext limits before) same h.0)
  where
    same : first ≡ entry
    same = cc
next_along limits before (first ∷ entries) h (suc n) entry e =
    rw (append_assoc before (first ∷ []) (take n entries)) at (next_along limits (before ++ first ∷ []) entries h.1 n entry e)

pub IsRun-from_steps : (limits : Limits) (entries : List Entry) → EachNext limits [] entries → IsRun limits entries
IsRun-from_steps limits entries h = record { each = next_along limits [] entries h }
