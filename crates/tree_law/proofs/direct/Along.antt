-- A trace is direct where each actor obeys its discipline and each operation says how many steps it has left.
use Rattle.tree_law.proofs.Words.{List, ◌++◌, ◌∷◌, ℕ, append_assoc, append-nil, Limits, replaced_at, IsDisciplinedFrom, Entry, Begin, Step, IsDirect, Accounts, IsDirectState, StaysDirect, IsState, []}
use Rattle.tree_law.specs.Direct.{DirectRuns, SpendsFrom}
use Rattle.tree_law.proofs.trace.Beginning as beginning
use Rattle.tree_law.proofs.trace.Steps as growth
use Rattle.tree_law.proofs.shape.Puts.{by_equal}
use Rattle.tree_law.proofs.direct.Affording.{begins, opens, steps}

-- each actor can afford the steps that it says to have left
abbrev AllAfford : Limits → List Entry → (ℕ → ℕ) → Type 0
AllAfford limits entries left = (actor : ℕ) → Accounts limits entries actor (left actor)

afford_after : (limits : Limits) (before : List Entry) (entry : Entry) (actor rest : ℕ) (left : ℕ → ℕ) → AllAfford limits before left
    → StaysDirect limits before entry actor rest → AllAfford limits (before ++ entry ∷ []) (replaced_at actor rest left)
afford_after limits before entry actor rest left each stays b = by_equal b actor
    (λ same t. rw (t, same) stays.account)
    (λ ne t. rw t (stays.others b (left b) ne (each b)))

along : (limits : Limits) (before entries : List Entry) (left : ℕ → ℕ) → IsState limits before → IsDirectState limits before → AllAfford limits before left
    → IsDisciplinedFrom limits before entries → SpendsFrom limits left before entries → IsDirect limits (before ++ entries)
along limits before [] left state kept each h spends = rw (append-nil before) kept.direct
along limits before (Begin actor command ∷ entries) left state kept each h (rest, few, more) =
    let stays = begins limits before actor command kept rest few in
    rw (append_assoc before (Begin actor command ∷ []) entries) at (along limits (before ++ Begin actor command ∷ []) entries (replaced_at actor rest left)
    (beginning.begins limits before actor command state h.0.0 h.0.1) stays.state
    (afford_after limits before (Begin actor command) actor rest left each stays) h.1 more)
along limits before (Step actor step answer reply ∷ entries) left state kept each h (rest, useful, spent, few, more) =
    let stays = steps limits before actor step answer reply state h.0.1.may useful h.0.2 kept (left actor) rest (each actor) spent few in
    rw (append_assoc before (Step actor step answer reply ∷ []) entries) at (along limits (before ++ Step actor step answer reply ∷ []) entries
    (replaced_at actor rest left) (growth.steps limits before actor step answer reply state h.0.0 h.0.1 h.0.2) stays.state
    (afford_after limits before (Step actor step answer reply) actor rest left each stays) h.1 more)

pub direct_runs : DirectRuns
direct_runs limits entries h spends = along limits [] entries (λ actor. 0) (beginning.opens limits) (opens limits) (λ actor op latest same. absurd (cc latest.begun)) h spends
