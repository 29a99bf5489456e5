-- Operations end at their leaves.
use Rattle.tree_law.proofs.Words.{[], refl, Option, None, List, inl, ◌++◌, inr, ◌∷◌, ℕ, ◌≡◌, Some, IsSome, IfSome, Reply, Limits, Answer, StepOf, Leave, Record, slice_get-push_cases}
use Rattle.tree_law.proofs.Words.{MayReply, Knowledge, Entry, Step}
use Rattle.linearization.specs.Operations.{EndAtLeaves, RepliesAtLeave}

pub ends_none : EndAtLeaves []
ends_none = record { each = λ n entry e. cc }

pub ends_push : (entries : List Entry) (last : Entry) → EndAtLeaves entries → RepliesAtLeave last → EndAtLeaves (entries ++ last ∷ [])
ends_push entries last ends now = record {
  each = λ n entry e. elim (slice_get-push_cases entries last n entry e) [
    | inl before ↦ ends.each n entry before
    | inr at ↦ rw at.1 now
  ];
}

-- a step as its actor may take it
pub step_ends : (limits : Limits) (k : Knowledge) (a : ℕ) (step : StepOf Record) (answer : Answer Record) (reply : Option Reply)
    → IfSome reply (λ y. (step ≡ Leave) × MayReply limits a k y) → (step ≡ Leave → IsSome reply)
    → RepliesAtLeave (Step a step answer reply)
step_ends limits k a Leave answer reply replied ends = ends refl
step_ends limits k a step answer None replied ends = refl
step_ends limits k a step answer (Some given) replied ends = let e = replied.0 in cc
