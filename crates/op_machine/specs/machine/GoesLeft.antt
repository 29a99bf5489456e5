-- Where an operation goes that meets a removed page: to the left of that page, and not from the root for its key once more.
use Rattle.std.specs.Prelude.{◌≡◌, ◌<◌, ◌⊎◌, None, true, false, not, ⊤}
use Rattle.bw_model.specs.Replies.{command_key}
use Rattle.bw_model.specs.declared.step.Answer.{Answer}
use Rattle.tree_limits.specs.declared.limits.Limits.{Limits}
use Rattle.deltas.specs.declared.record.Record.{Record}
use Rattle.traces.specs.chain.Chains.{is_removed, level_in, low_in}
use Rattle.structure_changes.specs.Versions.{Version}
use Rattle.round_model.specs.Courses as goal
use Rattle.round_model.specs.Descents.{Finds, Root}
use Rattle.round_model.specs.ReadGoals as read_goal
use Rattle.round_model.specs.ReadLegs.{Down, IsPlain, Round}
use Rattle.round_model.specs.ReadRounds.{GoesRound, IsLost, ReadRound, reading}
use Rattle.round_model.specs.Visits.{Whole}
use Rattle.round_model.specs.WriteResponses.{writing}
use Rattle.round_model.specs.WriteRounds.{SeeksLeaf, WriteRound}
use Rattle.op_machine.specs.machine.Errands.{due_of, splits_of, tends_of, way_key}
use Rattle.op_machine.specs.machine.States.{State, Read, Write}
use Rattle.op_machine.specs.machine.Tasks.{Task}

-- rounds before their first step

-- a reader's round to the leaf of the command's key
abbrev pub first_read : Task → ReadRound
first_read task = record { limits = task.limits; key = command_key task.command; goal = read_goal.Seek; leg = Down None; state = Root }

-- a writer's round to the leaf of the newest errand, or of the command's key
abbrev pub first_write : Task → WriteRound
first_write task = record {
  limits = task.limits;
  key = way_key task.errands task.command;
  due = due_of task.limits task.errands task.command;
  tends = tends_of task.errands task.command;
  splits = splits_of task.limits task.errands task.command;
  floor = 0;
  goal = goal.Seek;
  parent = None;
  left = None;
  state = Root;
}

-- a reader's round, begun once more, to the left of a removed leaf first
abbrev pub read_left_of : Version → ReadRound → ReadRound
read_left_of removed round = record round { goal = read_goal.Left removed; leg = Down None; state = Root }

-- a writer's round to the left of a removed page: to the page of that one's level where the way ends that has the keys below its low key
abbrev pub write_left_of : Limits → Version → WriteRound
write_left_of limits removed = record {
  limits = limits;
  key = low_in removed.chain;
  due = 8;
  tends = false;
  splits = not limits.is_large;
  floor = level_in removed.chain;
  goal = goal.Left removed.pid;
  parent = None;
  left = None;
  state = Root;
}

-- With the answer a page is whole that is removed, on the way of a writer's round to a leaf, or to the left of another removed page.
pub record MeetsWriting (round : WriteRound) (told : Answer Record) (removed : Version) : Type 0 where
  pub whole : Finds (writing.way round) told (Whole removed)
  pub seeks : SeeksLeaf round.goal
  pub gone : is_removed removed.chain ≡ true

-- So it is on the way of a reader's round.
pub record MeetsReading (round : ReadRound) (told : Answer Record) (removed : Version) : Type 0 where
  pub whole : Finds (reading.way round) told (Whole removed)
  pub gone : is_removed removed.chain ≡ true

-- The reader goes round the removed index page, to the left of it, by the page above; or no page above has a term to the left of it, and
-- a new round begins.
abbrev pub GoesRoundOrAnew : Task → ReadRound → Version → State → Type 0
GoesRoundOrAnew task round removed new = ((next : ReadRound) × GoesRound round removed next × (new ≡ Read next)) ⊎ (IsLost round removed × (new ≡ Read (first_read task)))

-- What a reader does that meets a removed page. A removed leaf: its next round goes to the left of that leaf first. A removed index page:
-- it goes round it. Another removed page on the way round one: a new round begins.
pub record TurnsLeft (task : Task) (round : ReadRound) (removed : Version) (new : State) : Type 0 where
  pub leaf : IsPlain round.leg → level_in removed.chain ≡ 0 → new ≡ Read (read_left_of removed round)
  pub index : IsPlain round.leg → 0 < level_in removed.chain → GoesRoundOrAnew task round removed new
  pub second : (first : Version) → round.leg ≡ Round first → new ≡ Read (first_read task)

-- An operation that meets a removed page with the answer goes to the left of it.
abbrev pub GoesLeft : Task → State → Answer Record → State → Type 0
GoesLeft task (Read round) told new = (removed : Version) → MeetsReading round told removed → TurnsLeft task round removed new
GoesLeft task (Write round) told new = (removed : Version) → MeetsWriting round told removed → new ≡ Write (write_left_of task.limits removed)
GoesLeft task other told new = ⊤
