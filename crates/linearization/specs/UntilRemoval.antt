-- Progress until the first removal, by smaller numbers than those of every run: a reader takes few steps whatever others do, what costs an operation
-- steps, that it ends where it runs alone, and how few steps all take.
use Rattle.std.specs.Prelude.{◌≡◌, ◌<◌, ◌≤◌, ◌+◌, ◌*◌, ℕ, suc, List, length, take, false}
use Rattle.std.specs.List.{count_by}
use Rattle.tree_limits.specs.declared.limits.Limits.{Limits}
use Rattle.bw_model.specs.Replies.{is_writer}
use Rattle.bw_model.specs.declared.step.Answer.{Answer}
use Rattle.bw_model.specs.declared.step.Step.TheVariants.{Place}
use Rattle.deltas.specs.declared.record.Record.{Record}
use Rattle.deltas.specs.declared.record.Record.TheVariants as delta
use Rattle.deltas.specs.declared.record.Remove.{Remove}
use Rattle.traces.specs.declared.trace.Entry.{Entry}
use Rattle.traces.specs.discipline.Recalled.{cause_worth}
use Rattle.traces.specs.trace.Trace.{TakesStep}
use Rattle.linearization.specs.Operations.{Operation, IsOperation, IsOwnStep}
use Rattle.linearization.specs.Progress.{AreAmong, Hinders, RunsAlone, is_begin, is_end, is_step, steps_from}

-- No removal was ever placed.
abbrev pub PlacesNoRemoval : List Entry → Type 0
PlacesNoRemoval entries = (n actor row : ℕ) (remove : Remove) (answer : Answer Record) → ¬ TakesStep entries n actor (Place row (delta.Remove remove)) answer

module _ (limits : Limits) (entries : List Entry) where
  -- A lookup or a cursor page takes no more steps than a cause is worth, whatever others do.
  pub record ReadersEndUntilRemoval : Type 0 where
    pub few : (operation : Operation) (n : ℕ) → IsOperation entries operation → is_writer operation.command ≡ false → IsOwnStep entries operation n
        → PlacesNoRemoval (take n entries) → steps_from entries operation.actor operation.start n ≤ cause_worth limits

  -- The changes of the tree, and the numbers that others took, since it began pay for an operation's steps.
  pub record OperationsEndUntilRemoval : Type 0 where
    pub few : (operation : Operation) (n : ℕ) → IsOperation entries operation → IsOwnStep entries operation n → PlacesNoRemoval (take n entries)
        → (hindrances : List ℕ) × AreAmong limits entries operation.start n (Hinders operation.actor) hindrances
        × (steps_from entries operation.actor operation.start n ≤ cause_worth limits * (length hindrances + 1))
    -- from any later entry m on: those since then, what it had read before, a slot of each page at most and free numbers, and what it had left
    pub since : (operation : Operation) (m n : ℕ) → IsOperation entries operation → operation.start < m → m ≤ n → IsOwnStep entries operation n → PlacesNoRemoval (take n entries)
        → (hindrances : List ℕ) × AreAmong limits entries m n (Hinders operation.actor) hindrances
        × (steps_from entries operation.actor m n ≤ cause_worth limits * (length hindrances + limits.pids + 11))

  -- An operation that runs alone from entry m on ends: what hindered it until then, and the changes that the tree has in store, pay for all its
  -- steps. Where it runs alone from its begin on, these changes do. However long others were in its way, it takes no more steps from entry m on
  -- than the limits say. (Obstruction-freedom)
  pub record EndAloneUntilRemoval : Type 0 where
    pub few : (operation : Operation) (m n : ℕ) → IsOperation entries operation → operation.start < m → IsOwnStep entries operation n
        → RunsAlone entries operation.actor m n → PlacesNoRemoval (take n entries)
        → (hindrances : List ℕ) × AreAmong limits entries operation.start m (Hinders operation.actor) hindrances
        × (steps_from entries operation.actor operation.start n ≤ cause_worth limits * (length hindrances + 154 * limits.pids + 8 * limits.actors + 1))
    pub whole : (operation : Operation) (n : ℕ) → IsOperation entries operation → IsOwnStep entries operation n
        → RunsAlone entries operation.actor (suc operation.start) n → PlacesNoRemoval (take n entries)
        → steps_from entries operation.actor operation.start n ≤ cause_worth limits * (154 * limits.pids + 8 * limits.actors + 1)
    pub since : (operation : Operation) (m n : ℕ) → IsOperation entries operation → operation.start < m → m ≤ n → IsOwnStep entries operation n
        → RunsAlone entries operation.actor m n → PlacesNoRemoval (take n entries)
        → steps_from entries operation.actor m n ≤ cause_worth limits * (155 * limits.pids + 8 * limits.actors + 11)

  -- All operations together take few steps for each that was begun, and for the numbers that there are. So they do for each that has ended, and each
  -- actor: as long as steps are taken, operations end. (Lock-freedom)
  pub record AreLockFreeUntilRemoval : Type 0 where
    pub few : (n : ℕ) → PlacesNoRemoval (take n entries)
        → count_by is_step (take n entries) ≤ cause_worth limits * (count_by is_begin (take n entries) + limits.actors * (32 * count_by is_begin (take n entries) + limits.rows + limits.pids))
    pub ended : (n : ℕ) → PlacesNoRemoval (take n entries)
        → count_by is_step (take n entries) ≤ cause_worth limits *
        (count_by is_end (take n entries) + limits.actors + limits.actors * (32 * (count_by is_end (take n entries) + limits.actors) + limits.rows + limits.pids))

-- what a run says of progress until the first removal
pub record MakesProgressUntilRemoval (limits : Limits) (entries : List Entry) : Type 0 where
  pub readers : ReadersEndUntilRemoval limits entries
  pub ends : OperationsEndUntilRemoval limits entries
  pub alone : EndAloneUntilRemoval limits entries
  pub together : AreLockFreeUntilRemoval limits entries
