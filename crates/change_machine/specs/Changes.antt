-- A change of the tree: the step that it wants, what its actor knows meanwhile, and how it ends.
use Rattle.std.specs.Prelude.{◌≡◌, ◌<◌, ◌≤◌, ◌⊎◌, ◌/◌, ℕ, length, if◌then◌else◌, Bool, Option, Some, None, true, false, is_some, ⊤}
use Rattle.std.specs.Option.{ForSome}
use Rattle.tree_limits.specs.declared.limits.Limits.{Limits}
use Rattle.bw_model.specs.declared.step.Step.{Step as StepOf}
use Rattle.bw_model.specs.declared.step.Step.TheVariants as step
use Rattle.bw_model.specs.declared.step.Answer.{Answer}
use Rattle.bw_model.specs.declared.step.Answer.TheVariants.{Whether}
use Rattle.deltas.specs.declared.record.Record.{Record}
use Rattle.deltas.specs.declared.record.Record.TheVariants as kind
use Rattle.deltas.specs.Records.{next_row}
use Rattle.deltas.specs.Spellable.{IsPid, IsSpellable, IsSpellablePage}
use Rattle.traces.specs.discipline.Discipline.{IsUnset, MayExchange}
use Rattle.traces.specs.discipline.Fitting.{Fits, ReadsRemoved}
use Rattle.traces.specs.discipline.Knowledge.{Belongings, Knowledge, Gone, Ready, Written}
use Rattle.structure_changes.specs.declared.split.SplitPlan.{SplitPlan}
use Rattle.structure_changes.specs.Plans.{cleared_page, cleared_row, clears, head_of, needs_pid, new_base, new_record, rows_needed, slot_of}
use Rattle.structure_changes.specs.Splits.{split_to}
use Rattle.change_machine.specs.declared.change.End.{End}
use Rattle.change_machine.specs.declared.change.End.TheVariants.{Won, Lost, Full}
use Rattle.change_machine.specs.declared.change.State.{State}
use Rattle.change_machine.specs.declared.change.State.TheVariants.{Taking, Base, Ready as ToReady, Place, Link, Undo, Clear}
use Rattle.structure_changes.specs.declared.plan.Plan.{Plan}
use Rattle.structure_changes.specs.declared.plan.Plan.TheVariants.{Install, Split, Root, Unlink}
use Rattle.change_machine.specs.declared.taking.Kind.{Kind}
use Rattle.change_machine.specs.declared.taking.Kind.TheVariants.{Pid, Row}
use Rattle.change_machine.specs.Moves.{has_rows, lower_from, upper_from, wanted_from}
use Rattle.change_machine.specs.Spares.{AreTheSpares, AreUnset, HaveRoom, Rest, Spares, last_row, pid_of, second_row}
use Rattle.change_machine.specs.Taking.{AllFull, AreFull, IsSoundTaking, from_of, kind_of, wanted_number, word_read}

-- what is to be linked, how far it has come, the count by which the actor's takings begin, and a record that was made to be placed
pub record Change : Type 0 where
  pub limits : Limits
  pub plan : Plan
  pub state : State
  pub near : ℕ
  pub made : Record

-- the plan that a change links: an update's, or the other one
abbrev pub plan_of : Bool → Plan → Plan → Plan
plan_of true update due = update
plan_of false update due = due

-- A number of the kind is needed next: first a PID, then rows.
abbrev pub IsNeededNext : Limits → Plan → Spares → Kind → Type 0
IsNeededNext limits plan spares Pid = (needs_pid plan ≡ true) × (spares.pid ≡ None)
IsNeededNext limits plan spares Row = (has_rows limits plan spares.rows ≡ false) × (needs_pid plan ≡ true → is_some spares.pid ≡ true)

-- the word from which on a number of the kind is looked for
abbrev pub needed_from : Limits → Plan → Spares → Kind → ℕ
needed_from limits plan spares Pid = 0
needed_from limits plan spares Row = wanted_from limits plan spares.rows / 64

-- Nothing is needed still.
pub record AreEnough (limits : Limits) (plan : Plan) (spares : Spares) : Type 0 where
  pub pid : needs_pid plan ≡ true → is_some spares.pid ≡ true
  pub rows : rows_needed plan ≤ length spares.rows
  pub upper : upper_from limits plan ≤ last_row spares
  pub lower : lower_from limits plan ≤ second_row spares

-- The row of a split's base and that of its record: in a large tree the base, which takes more words, has the last one, and else the record.
abbrev pub split_base_row : Bool → Spares → ℕ
split_base_row large spares = if large then last_row spares else second_row spares

abbrev pub split_row : Bool → Spares → ℕ
split_row large spares = if large then second_row spares else last_row spares

-- the row of the new page's base, and that of the record that comes over a page's newest row
abbrev pub base_row : Limits → Plan → Spares → ℕ
base_row limits (Split pid plan) spares = split_base_row limits.is_large spares
base_row limits (Install pid head content) spares = last_row spares
base_row limits (Root left root) spares = last_row spares
base_row limits (Unlink pid head unterm removal) spares = last_row spares

abbrev pub record_row : Limits → Plan → Spares → ℕ
record_row limits (Split pid plan) spares = split_row limits.is_large spares
record_row limits (Install pid head content) spares = last_row spares
record_row limits (Root left root) spares = last_row spares
record_row limits (Unlink pid head unterm removal) spares = last_row spares

-- the record that is to be placed, where a plan has it as such, or where one was made
abbrev pub placed_in : Plan → Record → Record
placed_in (Install pid head content) made = content
placed_in (Split pid plan) made = made
placed_in (Root left root) made = made
placed_in (Unlink pid head unterm removal) made = made

-- the number that comes into the slot whose exchange decides
abbrev pub linked_number : Limits → Plan → Spares → ℕ
linked_number limits (Install pid head content) spares = last_row spares
linked_number limits (Split pid plan) spares = split_row limits.is_large spares
linked_number limits (Root left root) spares = pid_of spares
linked_number limits (Unlink pid head unterm removal) spares = last_row spares

-- the step that a state has asked for
abbrev pub wanted_at : Limits → Plan → Spares → State → StepOf Record
wanted_at limits plan spares (Taking taking) = wanted_number taking
wanted_at limits plan spares Base = step.Place (base_row limits plan spares) (new_base plan)
wanted_at limits plan spares ToReady = step.Exchange (pid_of spares) 0 (base_row limits plan spares)
wanted_at limits plan spares Place = step.Place (record_row limits plan spares) (new_record plan (pid_of spares))
wanted_at limits plan spares Link = step.Exchange (slot_of plan) (head_of plan) (linked_number limits plan spares)
wanted_at limits plan spares Undo = step.Exchange (pid_of spares) (base_row limits plan spares) 0
wanted_at limits plan spares Clear = step.Exchange (cleared_page plan) (cleared_row plan) 0

abbrev pub wanted_step : Change → Spares → StepOf Record
wanted_step change spares = wanted_at change.limits change.plan spares change.state

-- A change reads words of free bits, takes numbers, places records and exchanges slots, and does nothing else.
abbrev pub IsOfChange : StepOf Record → Type 0
IsOfChange (step.PidBits word) = ⊤
IsOfChange (step.RowBits word) = ⊤
IsOfChange (step.TakePid pid) = ⊤
IsOfChange (step.TakeRow row) = ⊤
IsOfChange (step.Place row content) = ⊤
IsOfChange (step.Exchange slot old new) = ⊤
IsOfChange asked = ⊥

-- whether the exchange that decides was taken: it lost, and an own page's slot is emptied again, or it won, and a removed page's slot is emptied
abbrev pub has_decided : State → Bool
has_decided Undo = true
has_decided Clear = true
has_decided state = false

-- that exchange is taken now, or was
abbrev pub CanDecide : State → Type 0
CanDecide state = (state ≡ Link) ⊎ (has_decided state ≡ true)

-- A change comes to where that exchange was taken exactly by that exchange, and by it alone to its end but for want of a number.
abbrev pub EndsByDeciding : State → State → Option End → Type 0
EndsByDeciding old new None = (has_decided new ≡ true → CanDecide old) × (CanDecide old → has_decided new ≡ true)
EndsByDeciding old new (Some Won) = CanDecide old
EndsByDeciding old new (Some Lost) = CanDecide old
EndsByDeciding old new (Some (Full kind)) = ⊤

-- the change, gone to a state
abbrev pub at : Change → State → Change
at change state = record change { state = state }

-- The page, the row of its slot and the record name no number that has no place.
pub record IsTargetOver (limits : Limits) (pid head : ℕ) (content : Record) : Type 0 where
  pub page : 0 < pid
  pub pid_below : pid < limits.pids
  pub linked : 0 < head
  pub head_below : head < limits.rows
  pub next_below : ForSome (next_row content) (λ next. next < limits.rows)

-- The plan names no number that has no place.
abbrev pub IsTarget : Limits → Plan → Type 0
IsTarget limits (Install pid head content) = IsTargetOver limits pid head content
IsTarget limits (Split pid plan) = IsTargetOver limits pid plan.next (kind.Base plan.upper)
IsTarget limits (Root left root) = (0 < left) × (left < limits.pids)
IsTarget limits (Unlink pid head unterm removal) = IsTargetOver limits pid head (kind.Unterm unterm) × ((0 < unterm.child) × (unterm.child < limits.pids)) × (0 < removal) × (removal < limits.rows)

-- A row can spell each record that the plan places; the split, whichever page it names as the new one.
abbrev pub IsSpellablePlan : Plan → Type 0
IsSpellablePlan (Install pid head content) = IsSpellable content
IsSpellablePlan (Split pid plan) = IsSpellablePage plan.upper × ((right : ℕ) → IsPid right → IsSpellable (kind.Split (split_to plan right)))
IsSpellablePlan (Root left root) = IsSpellablePage root
IsSpellablePlan (Unlink pid head unterm removal) = IsSpellable (kind.Unterm unterm)

-- Such a plan has such a state: only a new page has a base, only what comes over a page's newest row is placed for it, and only
-- what takes a page's term out clears that page.
abbrev pub IsSoundState : Limits → Plan → Spares → State → Type 0
IsSoundState limits plan spares (Taking taking) =
    IsSoundTaking limits taking × IsNeededNext limits plan spares (kind_of taking) × (from_of taking ≡ needed_from limits plan spares (kind_of taking))
IsSoundState limits plan spares Base = AreEnough limits plan spares × (needs_pid plan ≡ true)
IsSoundState limits plan spares ToReady = AreEnough limits plan spares × (needs_pid plan ≡ true)
IsSoundState limits plan spares Place = AreEnough limits plan spares × (0 < slot_of plan)
IsSoundState limits plan spares Link = AreEnough limits plan spares
IsSoundState limits plan spares Undo = AreEnough limits plan spares × (needs_pid plan ≡ true)
IsSoundState limits plan spares Clear = clears plan ≡ true

-- A change and the spares of its actor.
pub record IsSoundChange (change : Change) (spares : Spares) : Type 0 where
  pub room : HaveRoom change.limits spares
  pub state : IsSoundState change.limits change.plan spares change.state

-- The record that the state asks to place is there.
abbrev pub IsMadeAt : Plan → Record → Spares → State → Type 0
IsMadeAt plan made spares Base = placed_in plan made ≡ new_base plan
IsMadeAt plan made spares Place = placed_in plan made ≡ new_record plan (pid_of spares)
IsMadeAt plan made spares state = ⊤

abbrev pub IsMade : Change → Spares → Type 0
IsMade change spares = IsMadeAt change.plan change.made spares change.state

-- What is known is as it was, but for own rows, own pages and words of free bits; of the command's update this is known.
pub record IsLike (linked : Option (Option ℕ)) (was now : Knowledge) : Type 0 where
  pub inside : now.inside ≡ was.inside
  pub read : now.read ≡ was.read
  pub command : now.asked.command ≡ was.asked.command
  pub linked_now : now.asked.linked ≡ linked

-- The actor may link the content once it has placed it in a row of its own, whichever that is.
abbrev pub MayInstall : ℕ → Knowledge → ℕ → ℕ → Record → Type 0
MayInstall actor k pid head content = (now : Knowledge) (row : ℕ) → IsLike k.asked.linked k now → 0 < row → now.own.rows row ≡ Written content → IsUnset now row → MayExchange actor now pid head row

-- The actor may link the split once it has a page of its own with the upper part, whichever that is, and has placed the split.
abbrev pub MayDivide : ℕ → Knowledge → ℕ → SplitPlan → Type 0
MayDivide actor k pid plan =
    (now : Knowledge) (right base row : ℕ) → IsLike k.asked.linked k now → IsPid right → 0 < row → now.own.pages right ≡ Ready base → now.own.rows base ≡ Written (kind.Base plan.upper)
    → now.own.rows row ≡ Written (kind.Split (split_to plan right)) → IsUnset now row → MayExchange actor now pid plan.next row

-- The actor may link a page of its own as the root once it has this base.
abbrev pub MayRaise : ℕ → Knowledge → ℕ → Record → Type 0
MayRaise actor k left root =
    (now : Knowledge) (new base : ℕ) → IsLike k.asked.linked k now → IsPid new → now.own.pages new ≡ Ready base → now.own.rows base ≡ Written root → MayExchange actor now 0 left new

abbrev pub MayLinkAs : ℕ → Knowledge → Plan → Type 0
MayLinkAs actor k (Install pid head content) = MayInstall actor k pid head content
MayLinkAs actor k (Split pid plan) = MayDivide actor k pid plan
MayLinkAs actor k (Root left root) = MayRaise actor k left (kind.Base root)
MayLinkAs actor k (Unlink pid head unterm removal) = MayInstall actor k pid head (kind.Unterm unterm) × ReadsRemoved k unterm.child removal

-- The actor is inside, and may link what is planned once it has placed it; a page that it is to clear it has read removed.
pub record MayChange (actor : ℕ) (k : Knowledge) (plan : Plan) : Type 0 where
  pub inside : k.inside ≡ true
  pub links : MayLinkAs actor k plan

-- The spare PID isn't that of a page whose term is to go.
abbrev pub KeepsSparePage : Record → Option ℕ → Type 0
KeepsSparePage (kind.Unterm unterm) (Some pid) = unterm.child ≡ pid → ⊥
KeepsSparePage content pid = ⊤

abbrev pub KeepsSpare : Plan → Option ℕ → Type 0
KeepsSpare (Install page head content) pid = KeepsSparePage content pid
KeepsSpare (Unlink page head unterm removal) pid = KeepsSparePage (kind.Unterm unterm) pid
KeepsSpare plan pid = ⊤

-- The new page has its base in its slot; where the plan brings none, no own page has a row in its slot.
abbrev pub StandsReady : Limits → Plan → Spares → Belongings → Type 0
StandsReady limits (Install pid head content) spares own = AreUnset own
StandsReady limits (Unlink pid head unterm removal) spares own = AreUnset own
StandsReady limits plan spares own = (own.pages (pid_of spares) ≡ Ready (base_row limits plan spares)) × (own.rows (base_row limits plan spares) ≡ Written (new_base plan))

-- The record is placed that comes over a page's newest row.
abbrev pub IsPlaced : Limits → Plan → Spares → Belongings → Type 0
IsPlaced limits (Root left root) spares own = ⊤
IsPlaced limits plan spares own = own.rows (record_row limits plan spares) ≡ Written (new_record plan (pid_of spares))

-- by the state of a change: what its actor knows
abbrev pub ShowsState : Limits → Plan → Spares → Knowledge → State → Type 0
ShowsState limits plan spares k (Taking taking) = AreUnset k.own × AreFull k.asked (kind_of taking) (from_of taking) (word_read taking)
ShowsState limits plan spares k Base = AreUnset k.own
ShowsState limits plan spares k ToReady = AreUnset k.own × (k.own.rows (base_row limits plan spares) ≡ Written (new_base plan))
ShowsState limits plan spares k Place = StandsReady limits plan spares k.own
ShowsState limits plan spares k Link = StandsReady limits plan spares k.own × IsPlaced limits plan spares k.own
ShowsState limits plan spares k Undo = StandsReady limits plan spares k.own
ShowsState limits plan spares k Clear = AreUnset k.own × (k.own.pages (cleared_page plan) ≡ Gone)

pub record Shows (actor : ℕ) (change : Change) (spares : Spares) (k : Knowledge) : Type 0 where
  pub may : MayChange actor k change.plan
  pub keeps : KeepsSpare change.plan spares.pid
  pub are : AreTheSpares k.own spares
  pub stands : ShowsState change.limits change.plan spares k change.state

-- Something is known that the answer to the step wanted last fits.
pub record FitsChange (change : Change) (spares : Spares) (told : Answer Record) : Type 0 where
  pub k : Knowledge
  pub fits : Fits change.limits k (wanted_step change spares) told

-- The change goes on: nothing else is known than before, but of own rows, own pages and words of free bits.
pub record ChangesOn (actor : ℕ) (k now : Knowledge) (change : Change) (spares : Spares) : Type 0 where
  pub shows : Shows actor change spares now
  pub like : IsLike k.asked.linked k now

-- what is known of the command's update once a change has ended: one that linked a put or a delete has linked it
abbrev pub linked_by : Record → ℕ → Option (Option ℕ) → Option (Option ℕ)
linked_by (kind.Put put) head linked = Some (Some head)
linked_by (kind.Delete delete) head linked = Some (Some head)
linked_by _ head linked = linked

abbrev pub linked_after : Plan → End → Option (Option ℕ) → Option (Option ℕ)
linked_after (Install pid head content) Won linked = linked_by content head linked
linked_after plan end linked = linked

-- A number of the kind is needed next, and each word of it was read as 0.
abbrev pub LacksNumber : Limits → Plan → Spares → Knowledge → Kind → Type 0
LacksNumber limits plan spares k which = IsNeededNext limits plan spares which × AllFull limits k.asked which

-- the state from which a change wins
abbrev pub last_state : Plan → State
last_state (Install pid head content) = Link
last_state (Split pid plan) = Link
last_state (Root left root) = Link
last_state (Unlink pid head unterm removal) = Clear

-- What decides: the exchange won, and the page was cleared, if one was to be; it lost, and there was no new page, or that one's slot was emptied again; or a number is wanting.
abbrev pub IsDecided : Change → Answer Record → Knowledge → Spares → End → Type 0
IsDecided old told now has Won = (old.state ≡ last_state old.plan) × (told ≡ Whether true)
IsDecided old told now has Lost = ((old.state ≡ Link) × (told ≡ Whether false) × (needs_pid old.plan ≡ false)) ⊎ ((old.state ≡ Undo) × (told ≡ Whether true))
IsDecided old told now has (Full which) = LacksNumber old.limits old.plan has now which

-- The change has ended: what is known then, and that nothing is taken and not linked but the spares.
pub record ChangeIsOver (k now : Knowledge) (old : Change) (told : Answer Record) (has : Spares) (end : End) : Type 0 where
  pub like : IsLike (linked_after old.plan end k.asked.linked) k now
  pub rest : Rest now.own has
  pub decided : IsDecided old told now has end

-- what follows from an answer
abbrev pub Follows : ℕ → Knowledge → Knowledge → Change → Answer Record → Change → Spares → Option End → Type 0
Follows actor k now old told new has None = ChangesOn actor k now new has
Follows actor k now old told new has (Some end) = ChangeIsOver k now old told has end

-- Only the state has changed.
pub record IsSameChange (old new : Change) : Type 0 where
  pub limits : new.limits ≡ old.limits
  pub plan : new.plan ≡ old.plan
