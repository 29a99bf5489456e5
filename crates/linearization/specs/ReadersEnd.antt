-- Progress of readers also beside removals: what costs a reader steps, and that it ends where it runs alone.
use Rattle.std.specs.Prelude.{◌≡◌, ◌<◌, ◌≤◌, ◌+◌, ◌*◌, ℕ, List, length, false}
use Rattle.tree_limits.specs.declared.limits.Limits.{Limits}
use Rattle.bw_model.specs.Replies.{is_writer}
use Rattle.traces.specs.declared.trace.Entry.{Entry}
use Rattle.traces.specs.discipline.Recalled.{few_reads}
use Rattle.linearization.specs.Operations.{Operation, IsOperation, IsOwnStep}
use Rattle.linearization.specs.Progress.{AreAmong, ChangesTree, RunsAlone, steps_from}

-- how many steps a reader's round takes at most: of each page once the slot and 13 records, and so many once more on each of 16
-- levels, for a removed page that the round then goes round
abbrev pub one_walk : Limits → ℕ
one_walk limits = few_reads limits + 14 * 16

-- how many reads a reader takes at most while nobody changes the tree, wherever it stands: as many walks as there are PIDs, and four
abbrev pub one_memory : Limits → ℕ
one_memory limits = (4 + limits.pids) * one_walk limits

module _ (limits : Limits) (entries : List Entry) where
  -- Of a lookup or a cursor page, whatever others do, and whatever was removed:
  pub record ReadersEnd : Type 0 where
    -- the changes of the tree since it began pay for its reads; besides, it reads the epoch, enters and leaves.
    pub few : (operation : Operation) (n : ℕ) → IsOperation entries operation → is_writer operation.command ≡ false → IsOwnStep entries operation n
        → (changes : List ℕ) × AreAmong limits entries operation.start n ChangesTree changes
        × (steps_from entries operation.actor operation.start n ≤ one_memory limits * (length changes + 1) + 3)
    -- From any later entry m on those since then do.
    pub since : (operation : Operation) (m n : ℕ) → IsOperation entries operation → is_writer operation.command ≡ false → operation.start < m → m ≤ n → IsOwnStep entries operation n
        → (changes : List ℕ) × AreAmong limits entries m n ChangesTree changes × (steps_from entries operation.actor m n ≤ one_memory limits * (length changes + 1) + 3)
    -- One that runs alone from entry m on ends, since it changes nothing itself. (Obstruction-freedom)
    pub alone : (operation : Operation) (m n : ℕ) → IsOperation entries operation → is_writer operation.command ≡ false → operation.start < m → m ≤ n
        → IsOwnStep entries operation n → RunsAlone entries operation.actor m n
        → steps_from entries operation.actor m n ≤ one_memory limits + 3
