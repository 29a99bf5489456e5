-- What runs say of the progress of all operations, whatever was removed, where writers meet what is gone seldom.
use Rattle.std.specs.Prelude.{◌≡◌, ◌<◌, ◌≤◌, ◌+◌, ◌*◌, ℕ, suc, List, length, true, slice_range}
use Rattle.std.specs.List.{count_by}
use Rattle.tree_limits.specs.declared.limits.Limits.{Limits}
use Rattle.bw_model.specs.Replies.{is_writer}
use Rattle.traces.specs.declared.trace.Entry.{Entry}
use Rattle.traces.specs.trace.Run.{IsRun}
use Rattle.linearization.specs.Changes.{HasFewChanges}
use Rattle.linearization.specs.Direct.{IsDirect}
use Rattle.linearization.specs.Operations.{IsOperation, IsOwnStep, Operation}
use Rattle.linearization.specs.Progress.{AreAmong, ChangesTree}
use Rattle.linearization.specs.ReadersEnd.{ReadersEnd}
use Rattle.linearization.specs.Whole.{MakesProgress, most_meets}
use Rattle.progress.specs.WritersAmong.{meets_at}

module _ (limits : Limits) (entries : List Entry) where
  -- Of each writer: it meets what is gone seldom, by the changes of the tree,
  pub record MeetsSeldom : Type 0 where
    -- from its begin on, by those since then;
    pub few : (operation : Operation) (n : ℕ) → IsOperation entries operation → is_writer operation.command ≡ true → IsOwnStep entries operation n
        → (changes : List ℕ) × AreAmong limits entries operation.start n ChangesTree changes
        × (count_by (meets_at operation.actor) (slice_range entries operation.start (suc n)) ≤ (1 + length changes) * most_meets)
    -- from any later entry m on, by those since m.
    pub since : (operation : Operation) (m n : ℕ) → IsOperation entries operation → is_writer operation.command ≡ true → operation.start < m → m ≤ n → IsOwnStep entries operation n
        → (changes : List ℕ) × AreAmong limits entries m n ChangesTree changes
        × (count_by (meets_at operation.actor) (slice_range entries m (suc n)) ≤ (1 + length changes) * most_meets)

-- In a run that is direct and has few changes, in which readers end, and writers meet what is gone seldom, changes of the tree and numbers that
-- others take pay for all steps, an operation that runs alone ends, and all together are lock-free.
abbrev pub RunsMakeProgress : Type 0
RunsMakeProgress = (limits : Limits) (entries : List Entry) → IsRun limits entries → IsDirect limits entries → ReadersEnd limits entries → MeetsSeldom limits entries → HasFewChanges limits entries
    → MakesProgress limits entries
