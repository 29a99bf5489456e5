-- What a seat of a running tree shows, and what it keeps.
use Rattle.std.specs.Prelude.{◌≡◌, ◌<◌, ℕ, List, Option}
use Rattle.atomic_table.specs.Seated.{TableId}
use Rattle.bw_model.specs.declared.command.Command.{Command}
use Rattle.tree_limits.specs.declared.limits.Limits.{Limits}
use Rattle.op_machine.specs.machine.Actors.{Actor, IsActor, running_command}
use Rattle.op_machine.specs.machine.UnderWay.{steps_due}
use Rattle.traces.specs.declared.trace.Entry.{Entry}
use Rattle.traces.specs.discipline.Knowledge.{Knowledge, knows}
use Rattle.traces.specs.discipline.Recalled.{recalls}
use Rattle.traces.specs.trace.Trace.{command_of}
use Rattle.table_rule.specs.declared.view.Reach.TheVariants.{Idle}
use Rattle.table_rule.specs.Running.{BeginWithSteps}
use Rattle.table_rule.specs.Views.{SitsAt, Mine, seen_of}
use Rattle.progress.specs.ReaderStates.{PaysReader}
use Rattle.progress.specs.WriterStates.{PaysWriter}
use Rattle.tree_law.specs.Direct.{Accounts}
use Rattle.running_tree.specs.LastReply.{KeepsLack}
use Rattle.running_tree.specs.Runs.{IsLawfulRun}

-- a seat: of which table, of a tree of which limits, for which actor, and the run that it has seen
pub record Seat : Type 0 where
  pub table : TableId
  pub limits : Limits
  pub actor : ℕ
  pub seen : List Entry

-- the command that its operation has, if it has one
abbrev pub unfinished_command : Seat → Option Command
unfinished_command seat = command_of seat.seen seat.actor

-- what its own entries let its actor know
abbrev pub known_to : Seat → Knowledge
known_to seat = knows seat.seen seat.actor

-- What an actor keeps shows what its own entries let it know and recall; it runs what the run says that it has not finished, and
-- causes pay for the steps that it has taken and those that it has left, and a reader's by changes alone, which pay for what a writer meets that is gone. It tells what ran out for its last one.
pub record IsSeated (limits : Limits) (number : ℕ) (seen : List Entry) (at : Actor) : Type 0 where
  pub lawful : IsLawfulRun limits seen
  pub shows : IsActor limits number (knows seen number) (recalls seen number) at
  pub runs : running_command at ≡ command_of seen number
  pub pays : Accounts limits seen number (steps_due (recalls seen number) at.hand at.running)
  pub reads : PaysReader limits seen number at.running
  pub writes : PaysWriter limits seen number at.running
  pub lacks : KeepsLack limits number seen at.lacks

-- what a seat keeps between two calls
pub record IsSeat (limits : Limits) (number : ℕ) (me : Mine) (at : Actor) : Type 0 where
  pub there : number < limits.actors
  pub place : SitsAt limits number Idle me
  pub begins : BeginWithSteps (seen_of me)
  pub seated : IsSeated limits number (seen_of me) at

-- the same seat, which may have seen more
pub record IsSame (old new : Seat) : Type 0 where
  pub table : new.table ≡ old.table
  pub limits : new.limits ≡ old.limits
  pub actor : new.actor ≡ old.actor
