-- Progress of every run, whatever was removed: what costs an operation steps, that it ends where it runs alone, and how few steps all take.
use Rattle.std.specs.Prelude.{◌<◌, ◌≤◌, ◌+◌, ◌*◌, ℕ, List, length, take, if◌then◌else◌}
use Rattle.std.specs.List.{count_by}
use Rattle.tree_limits.specs.declared.limits.Limits.{Limits}
use Rattle.bw_model.specs.Replies.{is_writer}
use Rattle.bw_model.specs.declared.command.Command.{Command}
use Rattle.traces.specs.declared.trace.Entry.{Entry}
use Rattle.traces.specs.discipline.Recalled.{cause_worth}
use Rattle.linearization.specs.Operations.{Operation, IsOperation, IsOwnStep}
use Rattle.linearization.specs.Progress.{AreAmong, Hinders, RunsAlone, is_begin, is_end, is_step, steps_from}
use Rattle.linearization.specs.ReadersEnd.{one_memory}

-- How often a writer meets what is gone (a removal, an emptied slot, an exchange that it loses) at most while nobody changes the tree: twice by
-- what it had read before, once by a page to whose left it goes that may have gone since, and then once on each level, and three times besides.
abbrev pub most_meets : ℕ
most_meets = 22

-- how many steps a hindrance costs an operation at most: a writer a cause for itself, and one for each time that it meets what is gone; a
-- reader what one memory does
abbrev pub hindrance_worth : Limits → Command → ℕ
hindrance_worth limits command = if is_writer command then cause_worth limits * (most_meets + 1) else one_memory limits + 3

-- and any operation
abbrev pub most_worth : Limits → ℕ
most_worth limits = cause_worth limits * (most_meets + 1) + one_memory limits + 3

module _ (limits : Limits) (entries : List Entry) where
  -- The changes of the tree, and the numbers that others took, since its begin pay for an operation's steps.
  pub record OperationsEnd : Type 0 where
    pub few : (operation : Operation) (n : ℕ) → IsOperation entries operation → IsOwnStep entries operation n
        → (hindrances : List ℕ) × AreAmong limits entries operation.start n (Hinders operation.actor) hindrances
        × (steps_from entries operation.actor operation.start n ≤ hindrance_worth limits operation.command * (length hindrances + 1))
    -- From any later entry m on those since then do, and what it had read before, and had left to do, costs it as much as one more.
    pub since : (operation : Operation) (m n : ℕ) → IsOperation entries operation → operation.start < m → m ≤ n → IsOwnStep entries operation n
        → (hindrances : List ℕ) × AreAmong limits entries m n (Hinders operation.actor) hindrances
        × (steps_from entries operation.actor m n ≤ hindrance_worth limits operation.command * (length hindrances + 2))

  -- An operation that runs alone from entry m on ends: what hindered it until then, and the changes that the tree has in store, pay for all its
  -- steps. However long others were in its way, it takes no more steps from entry m on than the limits say. (Obstruction-freedom)
  pub record AlwaysEndAlone : Type 0 where
    pub few : (operation : Operation) (m n : ℕ) → IsOperation entries operation → operation.start < m → IsOwnStep entries operation n
        → RunsAlone entries operation.actor m n
        → (hindrances : List ℕ) × AreAmong limits entries operation.start m (Hinders operation.actor) hindrances
        × (steps_from entries operation.actor operation.start n ≤ hindrance_worth limits operation.command * (length hindrances + 154 * limits.pids + 8 * limits.actors + 1))
    pub since : (operation : Operation) (m n : ℕ) → IsOperation entries operation → operation.start < m → m ≤ n → IsOwnStep entries operation n
        → RunsAlone entries operation.actor m n → steps_from entries operation.actor m n ≤ hindrance_worth limits operation.command * (154 * limits.pids + 8 * limits.actors + 2)

  -- All operations together take few steps for each that was begun, and for the numbers that there are. So they do for each that has ended, and each
  -- actor: as long as steps are taken, operations end. (Lock-freedom)
  pub record AreLockFree : Type 0 where
    pub few : (n : ℕ)
        → count_by is_step (take n entries) ≤ most_worth limits * (count_by is_begin (take n entries) + limits.actors * (32 * count_by is_begin (take n entries) + limits.rows + limits.pids))
    pub ended : (n : ℕ)
        → count_by is_step (take n entries) ≤ most_worth limits *
        (count_by is_end (take n entries) + limits.actors + limits.actors * (32 * (count_by is_end (take n entries) + limits.actors) + limits.rows + limits.pids))

-- what a run says of the progress of its operations
pub record MakesProgress (limits : Limits) (entries : List Entry) : Type 0 where
  pub ends : OperationsEnd limits entries
  pub alone : AlwaysEndAlone limits entries
  pub together : AreLockFree limits entries
