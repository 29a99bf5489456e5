-- The reading of one page: the step that it wants, what its actor knows meanwhile, and what it finds.
use Rattle.std.specs.Prelude.{◌≡◌, ◌<◌, ◌==◌, ◌++◌, ◌∷◌, ◌⊎◌, ℕ, List, [], Bool, Option, Some, None, true, false, not, is_some, IsTrue, ⊤}
use Rattle.tree_limits.specs.declared.limits.Limits.{Limits}
use Rattle.bw_model.specs.declared.step.Step.{Step as StepOf}
use Rattle.bw_model.specs.declared.step.Step.TheVariants as step
use Rattle.bw_model.specs.declared.step.Answer.{Answer}
use Rattle.bw_model.specs.declared.step.Answer.TheVariants.{Number, Content}
use Rattle.deltas.specs.declared.record.Record.{Record}
use Rattle.deltas.specs.Records.{next_row}
use Rattle.traces.specs.chain.Chains.{IsFront}
use Rattle.traces.specs.discipline.Discipline.{IsMet}
use Rattle.traces.specs.discipline.Fitting.{IsReadWhole}
use Rattle.traces.specs.discipline.Knowledge.{Knowledge, learn}
use Rattle.round_model.specs.Versions.{IsInHand}
use Rattle.structure_changes.specs.Versions.{Version}

-- where a visit stands: each state is named by the step that it has asked for
pub data VisitState : Type 0 where
  Slot : VisitState
  Row : (head row : ℕ) → VisitState

-- what a visit finds: the page's slot holds 0, or the whole page
pub data Sight : Type 0 where
  Empty : Sight
  Whole : (version : Version) → Sight

-- the page that is read, the deltas that were read of its chain, and where the visit stands
pub record Visit : Type 0 where
  pub limits : Limits
  pub pid : ℕ
  pub part : List Record
  pub state : VisitState

abbrev pub IsSoundState : Limits → ℕ → VisitState → Type 0
IsSoundState limits pid Slot = (0 < pid) × (pid < limits.pids)
IsSoundState limits pid (Row head row) = (0 < pid) × (pid < limits.pids) × (0 < head) × (head < limits.rows) × (row < limits.rows)

-- the step that a state has asked for
abbrev pub wanted_at : ℕ → VisitState → StepOf Record
wanted_at pid Slot = step.Slot pid
wanted_at pid (Row head row) = step.Row row

abbrev pub wanted_step : Visit → StepOf Record
wanted_step visit = wanted_at visit.pid visit.state

-- The step reads a slot or a row that there is.
abbrev pub ReadsWithin : Limits → StepOf Record → Type 0
ReadsWithin limits (step.Slot pid) = pid < limits.pids
ReadsWithin limits (step.Row row) = row < limits.rows
ReadsWithin limits other = ⊥

-- the visit, gone to a state
abbrev pub at : Visit → VisitState → Visit
at visit state = record visit { state = state }

-- a page's visit, before its first step
abbrev pub to_page : Limits → ℕ → Visit
to_page limits pid = record { limits = limits; pid = pid; part = []; state = Slot }

-- slot 0 had the page, or a chain that was read from a slot's row names it
abbrev pub MayVisit : Knowledge → ℕ → Type 0
MayVisit k pid = IsTrue (k.read.roots pid) ⊎ IsMet k pid

-- The page's slot was read, and the records from its row on as far as the next row to read.
pub record Reads (k : Knowledge) (pid head : ℕ) (part : List Record) (row : ℕ) : Type 0 where
  pub linked : 0 < head
  pub in_slot : k.read.heads pid ≡ Some head
  pub seen : IsFront k.read.seen head part row
  pub named : k.read.learnt row ≡ true

-- by the state of a visit
abbrev pub ShowsState : Knowledge → ℕ → List Record → VisitState → Type 0
ShowsState k pid part Slot = MayVisit k pid
ShowsState k pid part (Row head row) = Reads k pid head part row

-- the row that the slot had is one that there is
abbrev pub IsHeadBelow : Limits → VisitState → Type 0
IsHeadBelow limits Slot = ⊤
IsHeadBelow limits (Row head row) = head < limits.rows

pub record Shows (visit : Visit) (k : Knowledge) : Type 0 where
  pub inside : k.inside ≡ true
  pub page : 0 < visit.pid
  pub below : visit.pid < visit.limits.pids
  pub head : IsHeadBelow visit.limits visit.state
  pub stands : ShowsState k visit.pid visit.part visit.state

-- The page that was visited is in hand, and what was known before its last record says of its chain what an answer shows.
pub record Arrives (k now : Knowledge) (visit : Visit) (version : Version) : Type 0 where
  pub pid : version.pid ≡ visit.pid
  pub inside : now.inside ≡ true
  pub in_hand : IsInHand visit.limits now version
  pub whole : IsReadWhole visit.limits k version.pid version.chain

-- what follows from an answer
abbrev pub Follows : Knowledge → Visit → Answer Record → Visit → Option Sight → Type 0
Follows k old told new None = Shows new (learn k (wanted_step old) told)
Follows k old told new (Some Empty) = ⊤
Follows k old told new (Some (Whole version)) = Arrives k (learn k (wanted_step old) told) old version

-- The slot was read as a row, and the visit goes on with the record there.
pub record FindsHead (old : Visit) (told : Answer Record) (new : Visit) : Type 0 where
  pub row : ℕ
  pub asked : old.state ≡ Slot
  pub is : told ≡ Number row
  pub some : 0 < row
  pub goes : new ≡ record old { part = []; state = Row row row }

-- A delta was read, and the visit goes on with the record under it.
pub record Continues (old : Visit) (told : Answer Record) (new : Visit) : Type 0 where
  pub head : ℕ
  pub row : ℕ
  pub content : Record
  pub under : ℕ
  pub asked : old.state ≡ Row head row
  pub is : told ≡ Content content
  pub more : next_row content ≡ Some under
  pub goes : new ≡ record old { part = old.part ++ content ∷ []; state = Row head under }

-- The base was read: the page is whole.
pub record Completes (old : Visit) (told : Answer Record) (version : Version) : Type 0 where
  pub row : ℕ
  pub content : Record
  pub asked : old.state ≡ Row version.head row
  pub is : told ≡ Content content
  pub last : next_row content ≡ None
  pub pid : version.pid ≡ old.pid
  pub chain : version.chain ≡ old.part ++ content ∷ []

-- The slot was read, and there is no page.
pub record FindsEmpty (old : Visit) (told : Answer Record) : Type 0 where
  pub asked : old.state ≡ Slot
  pub is : told ≡ Number 0

-- A visit reads on after the answer: the slot has a row, or the record stands over another one.
abbrev pub reads_on : Answer Record → Bool
reads_on (Number row) = not (row == 0)
reads_on (Content content) = is_some (next_row content)
reads_on other = false

-- what a visit makes of an answer
abbrev pub Responds : Visit → Answer Record → Visit → Option Sight → Type 0
Responds old told new None = FindsHead old told new ⊎ Continues old told new
Responds old told new (Some Empty) = FindsEmpty old told
Responds old told new (Some (Whole version)) = Completes old told version
