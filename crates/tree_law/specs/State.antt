-- What a trace of allowed steps keeps true.
use Rattle.std.specs.Prelude.{◌≡◌, ◌<◌, ◌≤◌, ◌^◌, ◌⊎◌, ℕ, List, length, take, Option, Some, MatchOption, Bool, true, false, IsTrue, slice_get, ⊤}
use Rattle.bw_model.specs.declared.command.Command.{Command}
use Rattle.bw_model.specs.declared.command.Reply.{Reply}
use Rattle.bw_model.specs.declared.command.Reply.TheVariants.{Full, Tidied}
use Rattle.tree_limits.specs.declared.limits.Limits.{Limits}
use Rattle.bw_model.specs.declared.step.Answer.TheVariants.{Number}
use Rattle.bw_model.specs.declared.step.Step.TheVariants.{PidBits, RowBits}
use Rattle.bw_model.specs.Log.{Update}
use Rattle.bw_model.specs.Replies.{is_writer}
use Rattle.base_page.specs.Pages as pages
use Rattle.deltas.specs.declared.record.Record.TheVariants.{Base}
use Rattle.deltas.specs.Memory.{Memory}
use Rattle.traces.specs.declared.trace.Entry.{Entry}
use Rattle.traces.specs.declared.trace.Entry.TheVariants.{Begin}
use Rattle.traces.specs.discipline.Learnt.{HasLearnt}
use Rattle.traces.specs.trace.Run.{IsRun}
use Rattle.traces.specs.trace.Trace.{memory_of, memory_at, command_of}
use Rattle.linearization.specs.Answered.{FindsNothingFree, FindsTidy, RepliesAt}
use Rattle.linearization.specs.Operations.{EndAtLeaves, Operation, IsOperation, IsOwnStep, TakesOwnStep, Finishes}
use Rattle.linearization.specs.Points.{log_of, log_at, IsPoint}
use Rattle.linearization.specs.Quiet.{IsQuiet}
use Rattle.linearization.specs.Faithful.{IsFaithful, KnowsRow}
use Rattle.linearization.specs.Phases as phase
use Rattle.linearization.specs.Phases.{Phase, IsInPhase, KeepsPhases}
use Rattle.linearization.specs.Updates.{UpdatesAtLinks}
use Rattle.linearization.specs.Reuse.{HandsPid, HandsRow, UnlinksPid, UnlinksRow, IsFreedByRule}
use Rattle.tree_law.specs.Fitness.{AreFitted, AreUnheld}
use Rattle.tree_law.specs.Indexed.{IsFirst, IsIndexedAlong}
use Rattle.tree_law.specs.Limbos.{IsInLimbo}
use Rattle.traces.specs.discipline.Knowledge.{Ready, Knowledge, knows}
use Rattle.tree_law.specs.Owners.{Free, Spare, Linked, Owners, Among}
use Rattle.tree_law.specs.Phase.{Fresh, Indexed, Held, Removed, Merged, PageOwner, Nobody, Keeps, Placed, Cleared}
use Rattle.tree_law.specs.Shared.{slot_in, shared_part}
use Rattle.tree_law.specs.Stood.{HaveStood}
use Rattle.tree_law.specs.Times.{Times, Timed}
use Rattle.tree_law.specs.Tree.{IsTree}

-- the actor begins no operation after the one at the place
abbrev pub IsUnended : List Entry → ℕ → ℕ → Type 0
IsUnended entries start actor = (later : ℕ) (command : Command) → start < later → slice_get entries later ≡ Some (Begin actor command) → ⊥

abbrev pub operation_from : ℕ → ℕ → Command → Operation
operation_from start actor command = record { start = start; actor = actor; command = command }

-- what the trace says of an actor's unfinished operation: the logs at its own steps, and the one at its point, if it has one
pub record Tells (entries : List Entry) (points : List Bool) (actor : ℕ) (asked : Command) (point : Option (List Update)) (logs : List (List Update)) : Type 0 where
  pub start : ℕ
  pub begins : slice_get entries start ≡ Some (Begin actor asked)
  pub unended : IsUnended entries start actor
  pub logs_at : (log : List Update) → Among log logs
      → (m : ℕ) × IsOwnStep entries (operation_from start actor asked) m × (log_at entries points m ≡ log) × (command_of (take m entries) actor ≡ Some asked)
  pub point_at : MatchOption point
      ((m : ℕ) → IsOwnStep entries (operation_from start actor asked) m → IsPoint points m → ⊥)
      (λ log. (m : ℕ) × IsOwnStep entries (operation_from start actor asked) m × IsPoint points m × (log_at entries points m ≡ log))

-- what an unfinished operation has found empty, and where
pub record IsSearch (entries : List Entry) (operation : Operation) (k : Knowledge) : Type 0 where
  pub unfinished : (n : ℕ) (reply : Reply) → Finishes entries operation n reply → ⊥
  pub pids_at : (word : ℕ) → k.asked.no_pids word ≡ true → (n : ℕ) × TakesOwnStep entries operation n (PidBits word) (Number 0)
  pub rows_at : (word : ℕ) → k.asked.no_rows word ≡ true → (n : ℕ) × TakesOwnStep entries operation n (RowBits word) (Number 0)

-- the operation has a point, at which the reply is that of its command
abbrev pub Justifies : Limits → List Entry → List Bool → Operation → Reply → Type 0
Justifies limits entries points operation reply = (m : ℕ) × IsOwnStep entries operation m × IsPoint points m × RepliesAt (memory_at limits entries m) (log_at entries points m) operation.command reply

-- what an operation without a point has found: nothing due, or, where its actor may link records, nothing free
abbrev pub HasFound : Limits → List Entry → Operation → Reply → Type 0
HasFound limits entries operation reply = ((reply ≡ Tidied) × FindsTidy limits entries operation) ⊎ ((reply ≡ Full) × IsTrue (is_writer operation.command) × FindsNothingFree limits entries operation)

-- the operation has no point, and replies what it has found
pub record IsPointless (limits : Limits) (entries : List Entry) (points : List Bool) (operation : Operation) (reply : Reply) : Type 0 where
  pub unmarked : (m : ℕ) → IsOwnStep entries operation m → IsPoint points m → ⊥
  pub finds : HasFound limits entries operation reply

abbrev pub IsAnsweredBy : Limits → List Entry → List Bool → Operation → Reply → Type 0
IsAnsweredBy limits entries points operation reply = Justifies limits entries points operation reply ⊎ IsPointless limits entries points operation reply

-- each mark is an own step of an operation, none has two, and each finished one replied what its command does at its mark, or
-- what it found without a mark
pub record IsMarked (limits : Limits) (entries : List Entry) (points : List Bool) : Type 0 where
  pub beside : length points ≡ length entries
  pub own : (n : ℕ) → IsPoint points n → (operation : Operation) × IsOperation entries operation × IsOwnStep entries operation n
  pub one : (operation : Operation) (m n : ℕ) → IsOperation entries operation → IsOwnStep entries operation m → IsOwnStep entries operation n → IsPoint points m → IsPoint points n → m ≡ n
  pub answered : (operation : Operation) (n : ℕ) (reply : Reply) → IsOperation entries operation → Finishes entries operation n reply → IsAnsweredBy limits entries points operation reply

-- the phase of a page by whose it is
abbrev pub phase_of : PageOwner → Phase
phase_of Nobody = phase.free
phase_of (Keeps actor) = phase.owned
phase_of (Placed Fresh level low) = phase.fresh
phase_of (Placed Indexed level low) = phase.indexed
phase_of (Placed Held level low) = phase.held
phase_of (Placed Removed level low) = phase.removed
phase_of (Placed Merged level low) = phase.merged
phase_of (Cleared actor level low) = phase.cleared

-- in the tree, now or once
abbrev pub IsInTree : PageOwner → Type 0
IsInTree Nobody = ⊥
IsInTree (Keeps actor) = ⊥
IsInTree (Placed stage level low) = ⊤
IsInTree (Cleared actor level low) = ⊤

-- The page is ready for its actor, and the row in its slot has a base.
pub record IsReadyPage (owners : Owners) (memory : Memory) (knows : ℕ → Knowledge) (page row : ℕ) : Type 0 where
  pub actor : ℕ
  pub ready : (knows actor).own.pages page ≡ Ready row
  pub owned : (owners.row row ≡ Linked) ⊎ (owners.row row ≡ Spare actor)
  pub base : pages.Page
  pub stands : memory.rows row ≡ Some (Base base)

-- What the names that actors have learnt are, and which slots hold rows.
pub record IsNamed (limits : Limits) (entries : List Entry) (owners : Owners) (memory : Memory) (knows : ℕ → Knowledge) : Type 0 where
  pub shown : (actor row : ℕ) → HasLearnt entries actor row → (row ≡ 0) ⊎ ((knows actor).read.learnt row ≡ true)
  pub known : (actor row : ℕ) → (knows actor).read.learnt row ≡ true → KnowsRow entries (length entries) actor row
  pub announced : (actor : ℕ) → (knows actor).inside ≡ true → 0 < memory.announced actor
  pub epoch : (0 < memory.epoch) × (memory.epoch ≤ 2 ^ 62)
  pub posted : (actor : ℕ) → memory.announced actor ≤ memory.epoch
  pub commands : (actor : ℕ) → (knows actor).asked.command ≡ command_of entries actor
  pub zero_free : owners.row 0 ≡ Free
  pub zero_taken : memory.free_rows 0 ≡ false
  pub free_row_below : (row : ℕ) → memory.free_rows row ≡ true → row < limits.rows
  pub row_below : (row : ℕ) → (owners.row row ≡ Free) ⊎ (row < limits.rows)
  pub free_pid_below : (pid : ℕ) → memory.free_pids pid ≡ true → (0 < pid) × (pid < limits.pids)
  pub pid_below : (pid : ℕ) → (phase_of (owners.page pid) ≡ phase.free) ⊎ ((0 < pid) × (pid < limits.pids))
  pub in_slots : (page row : ℕ) → slot_in memory.slots page ≡ Some row → IsInTree (owners.page page) ⊎ IsReadyPage owners memory knows page row

pub record IsState (limits : Limits) (entries : List Entry) : Type 0 where
  pub points : List Bool
  pub owners : Owners
  pub point : ℕ → Option (List Update)
  pub logs : ℕ → List (List Update)
  pub is_tree : IsTree (shared_part (memory_of limits entries)) (log_of entries points) owners (knows entries) point logs
  pub fitted : AreFitted owners (memory_of limits entries).rows
  pub unheld : AreUnheld owners (memory_of limits entries).rows
  pub named : IsNamed limits entries owners (memory_of limits entries) (knows entries)
  pub tells : (actor : ℕ) (asked : Command) → command_of entries actor ≡ Some asked → Tells entries points actor asked (point actor) (logs actor)
  pub searches : (operation : Operation) → IsOperation entries operation → IsUnended entries operation.start operation.actor → command_of entries operation.actor ≡ Some operation.command
      → IsSearch entries operation (knows entries operation.actor)
  -- the pages and leaves that an unfinished operation has read stood at own steps of it
  pub stood : (operation : Operation) → IsOperation entries operation → IsUnended entries operation.start operation.actor → command_of entries operation.actor ≡ Some operation.command
      → HaveStood limits entries operation (memory_of limits entries).rows (knows entries operation.actor).read
  pub marked : IsMarked limits entries points
  pub updates : UpdatesAtLinks limits entries points
  pub run : IsRun limits entries
  pub ends : EndAtLeaves entries
  pub quiet : IsQuiet limits entries points
  pub faithful : IsFaithful limits entries
  pub in_phase : (pid : ℕ) → IsInPhase limits entries (length entries) pid (phase_of (owners.page pid))
  pub only_phase : (pid : ℕ) (phase : Phase) → IsInPhase limits entries (length entries) pid phase → phase ≡ phase_of (owners.page pid)
  pub phases : KeepsPhases limits entries
  pub times : Times
  pub timed : Timed limits (memory_of limits entries) owners (knows entries) (length entries) times
  -- what is in limbos was taken out, stamped and passed as the limbos say, and what was freed is freed by the rule
  pub limbo_rows : (actor row : ℕ) → IsInLimbo entries actor (UnlinksRow limits entries actor row) (HandsRow row) ((knows entries actor).limbo.rows row)
  pub limbo_pids : (actor pid : ℕ) → IsInLimbo entries actor (UnlinksPid limits entries actor pid) (HandsPid pid) ((knows entries actor).limbo.pids pid)
  pub freed : IsFreedByRule limits entries
  pub indexed : IsIndexedAlong limits entries owners
  pub rooted : (actor page : ℕ) → (knows entries actor).read.roots page ≡ true → (level : ℕ) × IsFirst owners level page
