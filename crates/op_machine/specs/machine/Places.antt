-- The places of an operation: the state that they are, by where the operation stands.
use Rattle.std.specs.Prelude.{◌≡◌, Bool, false, true, not, Option, Some, None}
use Rattle.bw_model.specs.declared.command.Reply.{Reply as ReplyOf}
use Rattle.tree_limits.specs.declared.limits.Limits.{Limits}
use Rattle.bw_model.specs.declared.step.Answer.{Answer}
use Rattle.deltas.specs.declared.record.Record.{Record}
use Rattle.traces.specs.chain.Chains.{level_in, low_in}
use Rattle.structure_changes.specs.Versions.{Version}
use Rattle.round_model.specs.Courses as course
use Rattle.round_model.specs.ReadRounds as read
use Rattle.round_model.specs.Rounds.{Responds}
use Rattle.round_model.specs.WriteResponses as response
use Rattle.round_model.specs.WriteRounds as write
use Rattle.round_model.specs.Descents.{Root}
use Rattle.round_model.specs.ReadEnds.{ReadEnd}
use Rattle.round_model.specs.WriteEnds.{WriteEnd}
use Rattle.change_machine.specs.Changes.{Change as ChangeOf}
use Rattle.change_machine.specs.declared.change.End.{End}
use Rattle.change_machine.specs.declared.taking.Kind.{Kind}
use Rattle.rounds.specs.ReadRounds.{PlacedRead}
use Rattle.rounds.specs.WriteRounds.{PlacedWrite}
use Rattle.op_machine.specs.declared.places.StateKind.{StateKind}
use Rattle.op_machine.specs.declared.places.StateKind.TheVariants.{Begun, Epoch, Enter, Read, Write, Change, Leave}
use Rattle.op_machine.specs.machine.States.{State}
use Rattle.op_machine.specs.machine.States as at
use Rattle.op_parts.specs.declared.then.Then.{Then}

-- Where the operation stands, the rounds and the change, what comes after the change, and the reply with what ran out, each in its place.
pub record OpPlaces : Type 0 where
  pub stand : StateKind
  pub reader : PlacedRead
  pub writer : PlacedWrite
  pub change : ChangeOf
  pub then : Then
  pub reply : ReplyOf
  pub lacks : Option Kind

abbrev pub state_at : StateKind → read.ReadRound → write.WriteRound → ChangeOf → Then → ReplyOf → Option Kind → State
state_at Begun reader writer change then reply lacks = at.Begun
state_at Epoch reader writer change then reply lacks = at.Epoch
state_at (Enter epoch) reader writer change then reply lacks = at.Enter epoch
state_at Read reader writer change then reply lacks = at.Read reader
state_at Write reader writer change then reply lacks = at.Write writer
state_at Change reader writer change then reply lacks = at.Change change then
state_at Leave reader writer change then reply lacks = at.Leave reply lacks

-- the state that the places are
abbrev pub state_of : OpPlaces → State
state_of places = state_at places.stand places.reader.round places.writer.round places.change places.then places.reply places.lacks

-- Both rounds have these limits.
pub record HaveLimits (limits : Limits) (places : OpPlaces) : Type 0 where
  pub reader : places.reader.round.limits ≡ limits
  pub writer : places.writer.round.limits ≡ limits

-- the leaf in the hand of a reader's round, or the removed one beside it
abbrev pub leaf_read : Bool → PlacedRead → Version
leaf_read true reader = reader.aside
leaf_read false reader = reader.page

-- a writer's round to the left of the page in the hand of one
abbrev pub left_round_of : PlacedWrite → write.WriteRound
left_round_of writer = record {
  limits = writer.round.limits;
  key = low_in writer.page.chain;
  due = 8;
  tends = false;
  splits = not writer.round.limits.is_large;
  floor = level_in writer.page.chain;
  goal = course.Left writer.page.pid;
  parent = None;
  left = None;
  state = Root;
}

-- The reader's round has taken the answer, and nothing else has changed.
pub record ReadsOn (old : OpPlaces) (told : Answer Record) (new : OpPlaces) (result : Option ReadEnd) : Type 0 where
  pub responds : Responds read.reading old.reader.round told new.reader.round result
  pub same : read.ReadsForTheSame old.reader.round new.reader.round
  pub only : new ≡ record old { reader = new.reader }

-- The writer's round has taken the answer, and nothing else has changed.
pub record WritesOn (old : OpPlaces) (told : Answer Record) (new : OpPlaces) (result : Option WriteEnd) : Type 0 where
  pub responds : Responds response.writing old.writer.round told new.writer.round result
  pub same : write.WritesForTheSame old.writer.round new.writer.round
  pub only : new ≡ record old { writer = new.writer }

-- the end of a change, with what comes then
abbrev pub ended_with : Then → Option End → Option (End × Then)
ended_with then None = None
ended_with then (Some end) = Some (end, then)
