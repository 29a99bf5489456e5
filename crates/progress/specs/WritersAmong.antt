-- A writer among others: where its operation stands, entry by entry of a trace, and how often it meets what is gone.
use Rattle.std.specs.Prelude.{◌≡◌, ◌+◌, ◌*◌, ◌≤◌, ◌++◌, ◌⊎◌, ◌==◌, ◌&&◌, not, ℕ, List, [], ◌∷◌, Bool, true, false, Option, None, Some, ⊤, if◌then◌else◌}
use Rattle.std.specs.List.{count_by}
use Rattle.tree_limits.specs.declared.limits.Limits.{Limits}
use Rattle.bw_model.specs.declared.step.Answer.{Answer}
use Rattle.bw_model.specs.declared.step.Answer.TheVariants.{Content, Number, Whether}
use Rattle.bw_model.specs.declared.step.Step.{Step as StepOf}
use Rattle.bw_model.specs.declared.step.Step.TheVariants.{Exchange, Row, Slot}
use Rattle.deltas.specs.declared.record.Record.{Record}
use Rattle.traces.specs.declared.trace.Entry.{Entry}
use Rattle.traces.specs.declared.trace.Entry.TheVariants.{Begin, Step}
use Rattle.traces.specs.discipline.Knowledge.{Knowledge, knows}
use Rattle.traces.specs.discipline.Recalled.{Recalled, is_removal}
use Rattle.traces.specs.trace.Run.{IsNext}
use Rattle.traces.specs.trace.Trace.{memory_of}
use Rattle.structure_changes.specs.Plans.{head_of, slot_of}
use Rattle.structure_changes.specs.Versions.{Version}
use Rattle.round_model.specs.Courses.{Seek}
use Rattle.round_model.specs.Descents.{Root}
use Rattle.round_model.specs.Rounds.{Responds}
use Rattle.round_model.specs.WriteEnds.{WriteEnd}
use Rattle.round_model.specs.WriteEnds as write_end
use Rattle.round_model.specs.WriteResponses.{writing}
use Rattle.round_model.specs.WriteRounds.{WriteRound, wanted_step}
use Rattle.round_model.specs.WriteRounds as write
use Rattle.op_machine.specs.machine.GoesLeft.{write_left_of}
use Rattle.linearization.specs.Direct.{IsDirect}
use Rattle.tree_law.specs.State.{IsState}
use Rattle.progress.specs.ReadersAmong.{IsOthers, changes_tree}

-- Where a writer stands: in a round; or at a change, by the slot of the exchange that decides, the number that it expects there, and
-- whether that exchange was taken.
pub data WriterState : Type 0 where
  InRound : (round : WriteRound) → WriterState
  AtChange : (slot expected : ℕ) (taken : Bool) → WriterState

-- an entry, and where the writer stands after it
pub record WriterMoment : Type 0 where
  pub entry : Entry
  pub state : WriterState

-- what follows the end of a round

-- A round to the leaf of a key begins.
pub record BeginsRound (new : WriterState) : Type 0 where
  pub round : WriteRound
  pub is : new ≡ InRound round
  pub seeks : round.goal ≡ Seek
  pub above : round.parent ≡ None
  pub aside : round.left ≡ None
  pub first : round.state ≡ Root

-- a change begins over a page as it was read
abbrev pub BeginsOver : Version → WriterState → Type 0
BeginsOver version new = new ≡ AtChange version.pid version.head false

-- At its leaf a writer, if it doesn't leave, begins a new round, or a change of the leaf or of the page above it.
abbrev pub AfterLeaf : Option Version → Version → WriterState → Type 0
AfterLeaf parent leaf new = BeginsRound new ⊎ BeginsOver leaf new ⊎ ((above : Version) × (parent ≡ Some above) × BeginsOver above new)

abbrev pub AfterRound : WriteRound → Option WriteEnd → WriterState → Type 0
AfterRound next None new = new ≡ InRound next
AfterRound next (Some write_end.Again) new = BeginsRound new
AfterRound next (Some write_end.Done) new = BeginsRound new
AfterRound next (Some (write_end.Removed removed)) new = (limits : Limits) × (new ≡ InRound (write_left_of limits removed))
AfterRound next (Some (write_end.Due plan after)) new = new ≡ AtChange (slot_of plan) (head_of plan) false
AfterRound next (Some (write_end.Leaf parent leaf)) new = AfterLeaf parent leaf new

pub record StepsInRound (round : WriteRound) (step : StepOf Record) (answer : Answer Record) (new : WriterState) : Type 0 where
  pub wanted : step ≡ wanted_step round
  pub next : WriteRound
  pub end : Option WriteEnd
  pub responds : Responds writing round answer next end
  pub goes : AfterRound next end new

-- whether a step meets what is gone: it reads a removal, finds a slot empty, or loses its exchange
abbrev pub meets : StepOf Record → Answer Record → Bool
meets (Row row) (Content content) = is_removal content
meets (Slot slot) (Number number) = number == 0
meets (Exchange slot old new) (Whether won) = not won
meets step answer = false

-- The exchange that decides: what it expects, if it is a row or a PID, the actor has read last in the slot.
pub record Decides (k : Knowledge) (slot expected : ℕ) (step : StepOf Record) : Type 0 where
  pub number : ℕ
  pub is : step ≡ Exchange slot expected number
  pub read : (slot ≡ 0) ⊎ (expected ≡ 0) ⊎ (k.read.heads slot ≡ Some expected)

-- Before that exchange was taken this step is it; afterwards none loses.
abbrev pub HasDecided : Knowledge → ℕ → ℕ → Bool → StepOf Record → Answer Record → Type 0
HasDecided k slot expected true step answer = meets step answer ≡ false
HasDecided k slot expected false step answer = Decides k slot expected step

-- a change that was decided goes on, or a round begins
abbrev pub AfterChange : WriterState → Type 0
AfterChange new = BeginsRound new ⊎ ((slot expected : ℕ) × (new ≡ AtChange slot expected true))

-- A step of a change, which reads neither a slot nor a record, and loses no other exchange than the one that decides: that one is still to be
-- taken, or is taken, now or before.
pub record StepsAtChange (k : Knowledge) (slot expected : ℕ) (taken : Bool) (step : StepOf Record) (answer : Answer Record) (new : WriterState) : Type 0 where
  pub goes : ((meets step answer ≡ false) × (new ≡ AtChange slot expected taken)) ⊎ (HasDecided k slot expected taken step answer × AfterChange new)

abbrev pub StepsOn : Knowledge → WriterState → StepOf Record → Answer Record → WriterState → Type 0
StepsOn k (InRound round) step answer new = StepsInRound round step answer new
StepsOn k (AtChange slot expected taken) step answer new = StepsAtChange k slot expected taken step answer new

-- The writer takes a step, and goes on by what it makes of the answer.
pub record IsOwnWriting (actor : ℕ) (k : Knowledge) (state : WriterState) (moment : WriterMoment) : Type 0 where
  pub step : StepOf Record
  pub answer : Answer Record
  pub entry_is : moment.entry ≡ Step actor step answer None
  pub steps : StepsOn k state step answer moment.state

-- Another actor has the entry, and the writer stays where it stands.
pub record IsOtherWriting (actor : ℕ) (state : WriterState) (moment : WriterMoment) : Type 0 where
  pub others : IsOthers actor moment.entry
  pub stays : moment.state ≡ state

-- what is known of a round
abbrev pub ShowsWriter : WriterState → Knowledge → Recalled → Type 0
ShowsWriter (InRound round) k r = write.Shows round k r
ShowsWriter (AtChange slot expected taken) k r = ⊤

-- The entry may stand after the trace, and makes it a state that is direct; before it the round shows what the writer's actor knows.
pub record IsLawfulWriting (limits : Limits) (actor : ℕ) (entries : List Entry) (state : WriterState) (moment : WriterMoment) : Type 0 where
  pub next : IsNext limits entries moment.entry
  pub later : IsState limits (entries ++ moment.entry ∷ [])
  pub direct : IsDirect limits (entries ++ moment.entry ∷ [])
  pub r : Recalled
  pub shows : ShowsWriter state (knows entries actor) r
  pub goes : IsOwnWriting actor (knows entries actor) state moment ⊎ IsOtherWriting actor state moment

-- These moments follow the trace, after which the writer stands so.
abbrev pub AreLawfulWritings : Limits → ℕ → List Entry → WriterState → List WriterMoment → Type 0
AreLawfulWritings limits actor entries state [] = ⊤
AreLawfulWritings limits actor entries state (moment ∷ moments) =
    IsLawfulWriting limits actor entries state moment × AreLawfulWritings limits actor (entries ++ moment.entry ∷ []) moment.state moments

abbrev pub meets_at : ℕ → Entry → Bool
meets_at actor (Begin other command) = false
meets_at actor (Step other step answer reply) = (other == actor) && meets step answer

-- how often the writer meets one among the moments
abbrev pub own_meets : ℕ → List WriterMoment → ℕ
own_meets actor moments = count_by (λ (moment : WriterMoment). meets_at actor moment.entry) moments

-- how many of the moments change the tree
abbrev pub changes_among : Limits → List Entry → List WriterMoment → ℕ
changes_among limits entries [] = 0
changes_among limits entries (moment ∷ moments) = (if changes_tree (memory_of limits entries) moment.entry then 1 else 0) + changes_among limits (entries ++ moment.entry ∷ []) moments

-- how often at most while nobody changes the tree: twice by what it had read before, once by a page to whose left it goes that may have
-- gone since, and then once on each level, and twice besides
abbrev pub few_meets : ℕ
few_meets = 21

-- Wherever a writer stands, beside whatever was removed: it meets what is gone at most so often for each change of the tree, and once more.
abbrev pub WritersMeetFew : Type 0
WritersMeetFew = (limits : Limits) (actor : ℕ) (entries : List Entry) (state : WriterState) (moments : List WriterMoment) → IsState limits entries
    → AreLawfulWritings limits actor entries state moments → own_meets actor moments ≤ (1 + changes_among limits entries moments) * few_meets
