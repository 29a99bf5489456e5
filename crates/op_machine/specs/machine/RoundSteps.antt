-- What an operation makes of an answer in a round, and in a change: what the round makes of it, and what follows where it ends.
use Rattle.std.specs.Prelude.{◌≡◌, ◌⊎◌, Option, None, Some, true, false, ⊤}
use Rattle.bw_model.specs.Replies.{is_writer}
use Rattle.bw_model.specs.declared.step.Answer.{Answer}
use Rattle.deltas.specs.declared.record.Record.{Record}
use Rattle.structure_changes.specs.Plans.{head_of, slot_of}
use Rattle.structure_changes.specs.Versions.{Version}
use Rattle.structure_changes.specs.declared.plan.Plan.{Plan}
use Rattle.change_machine.specs.Changes.{CanDecide, Change as ChangeOf, has_decided}
use Rattle.change_machine.specs.declared.change.End.{End}
use Rattle.change_machine.specs.declared.change.End.TheVariants.{Full}
use Rattle.round_model.specs.ReadEnds.{ReadEnd}
use Rattle.round_model.specs.ReadEnds as read_end
use Rattle.round_model.specs.ReadRounds.{ReadsForTheSame, ReadRound, reading}
use Rattle.round_model.specs.Rounds.{Responds}
use Rattle.round_model.specs.WriteEnds.{WriteEnd}
use Rattle.round_model.specs.WriteEnds as write_end
use Rattle.round_model.specs.WriteResponses.{writing}
use Rattle.round_model.specs.WriteRounds.{WriteRound}
use Rattle.op_machine.specs.machine.GoesLeft.{first_read, first_write, read_left_of, write_left_of}
use Rattle.op_machine.specs.machine.Outcomes.{is_entering, is_leaving}
use Rattle.op_parts.specs.declared.then.Then.{Then}
use Rattle.op_machine.specs.machine.States.{State, Change, Epoch, Enter, Read, Write}
use Rattle.op_machine.specs.machine.Tasks.{Task}

-- After a reader's round has taken an answer, it goes on; or, by its end, a new one begins, one to the left of the removed leaf does, or the
-- operation is to leave.
abbrev pub AfterReading : Task → ReadRound → Option ReadEnd → State → Type 0
AfterReading task next None new = new ≡ Read next
AfterReading task next (Some read_end.Again) new = new ≡ Read (first_read task)
AfterReading task next (Some (read_end.Removed removed)) new = new ≡ Read (read_left_of removed next)
AfterReading task next (Some (read_end.Leaf leaf)) new = is_leaving new ≡ true
AfterReading task next (Some (read_end.Beside left removed)) new = is_leaving new ≡ true

-- A change of the plan begins: its exchange that decides is still to be taken.
abbrev pub BeginsPlan : Plan → State → Type 0
BeginsPlan plan new = (now : ChangeOf) × (after : Then) × (new ≡ Change now after) × (now.plan ≡ plan) × (has_decided now.state ≡ false)

-- A new round to a leaf begins.
abbrev pub BeginsAnew : State → Type 0
BeginsAnew new = (task : Task) × (new ≡ Write (first_write task))

-- the plan is over the page as it was read
abbrev pub IsOverPage : Version → Plan → Type 0
IsOverPage version plan = (slot_of plan ≡ version.pid) × (head_of plan ≡ version.head)

-- the plan is over the leaf, or over the page above it
abbrev pub IsOverLeaf : Option Version → Version → Plan → Type 0
IsOverLeaf parent leaf plan = IsOverPage leaf plan ⊎ ((above : Version) × (parent ≡ Some above) × IsOverPage above plan)

-- At its leaf the operation is to leave, or an errand is done and a new round begins, or a change of the leaf or of the page above it begins.
abbrev pub AfterLeaf : Option Version → Version → State → Type 0
AfterLeaf parent leaf new = (is_leaving new ≡ true) ⊎ BeginsAnew new ⊎ ((plan : Plan) × BeginsPlan plan new × IsOverLeaf parent leaf plan)

-- After a writer's round has taken an answer, it goes on; or, by its end, a new one begins, or one to the left of the removed page, or the change that
-- is due.
abbrev pub AfterWriting : Task → WriteRound → Option WriteEnd → State → Type 0
AfterWriting task next None new = new ≡ Write next
AfterWriting task next (Some write_end.Again) new = new ≡ Write (first_write task)
AfterWriting task next (Some write_end.Done) new = new ≡ Write (first_write task)
AfterWriting task next (Some (write_end.Removed removed)) new = new ≡ Write (write_left_of task.limits removed)
AfterWriting task next (Some (write_end.Due plan after)) new = BeginsPlan plan new
AfterWriting task next (Some (write_end.Leaf parent leaf)) new = AfterLeaf parent leaf new

-- After a change has ended the operation is to leave, or a new round begins; where nothing was free it is to leave.
abbrev pub AfterChanging : End → State → Type 0
AfterChanging (Full kind) new = is_leaving new ≡ true
AfterChanging other new = (is_leaving new ≡ true) ⊎ BeginsAnew new

-- A change goes on, or nothing is free and the operation is to leave; or its exchange that decides is taken, or was, and it goes on or ends.
pub record StepsChanging (now : ChangeOf) (new : State) : Type 0 where
  pub goes : ((next : ChangeOf) × (after : Then) × (new ≡ Change next after) × (next.plan ≡ now.plan)
      × (has_decided next.state ≡ true → CanDecide now.state) × (CanDecide now.state → has_decided next.state ≡ true))
      ⊎ (is_leaving new ≡ true) ⊎ (CanDecide now.state × BeginsAnew new)

pub record StepsReading (task : Task) (round : ReadRound) (told : Answer Record) (new : State) : Type 0 where
  pub next : ReadRound
  pub end : Option ReadEnd
  pub responds : Responds reading round told next end
  pub same : ReadsForTheSame round next
  pub goes : AfterReading task next end new

pub record StepsWriting (task : Task) (round : WriteRound) (told : Answer Record) (new : State) : Type 0 where
  pub next : WriteRound
  pub end : Option WriteEnd
  pub responds : Responds writing round told next end
  pub goes : AfterWriting task next end new

-- The operation is in a round, and has made this of the answer: so a new round begins only for a reason that the round's end has. Before its
-- first round it reads the epoch, and then enters, each once; once it has entered, a reader begins that round.
abbrev pub StepsInRound : Task → State → Answer Record → State → Type 0
StepsInRound task Epoch told new = is_entering new ≡ true
StepsInRound task (Enter epoch) told new = is_writer task.command ≡ false → new ≡ Read (first_read task)
StepsInRound task (Read round) told new = StepsReading task round told new
StepsInRound task (Write round) told new = StepsWriting task round told new
StepsInRound task (Change now after) told new = StepsChanging now new
StepsInRound task other told new = ⊤
