-- What a trace of allowed steps keeps true of how many steps an operation takes: the trace is direct, and the causes of each
-- operation pay for the steps that it has left.
use Rattle.std.specs.Prelude.{◌≡◌, ◌≢◌, ◌<◌, ◌≤◌, ◌+◌, ◌*◌, ℕ, List, [], ◌∷◌, ◌++◌, length, drop, Option, Some, IsSome, true, false, ⊤}
use Rattle.std.specs.List.{All, count_by}
use Rattle.std.specs.List.Sorted.{IsStrictlyIncreasing}
use Rattle.bw_model.specs.declared.command.Command.{Command}
use Rattle.bw_model.specs.declared.command.Reply.{Reply}
use Rattle.tree_limits.specs.declared.limits.Limits.{Limits}
use Rattle.bw_model.specs.declared.step.Answer.{Answer}
use Rattle.bw_model.specs.declared.step.Answer.TheVariants.{Number, Content}
use Rattle.bw_model.specs.declared.step.Link.{Link}
use Rattle.bw_model.specs.declared.step.Step.{Step as StepOf}
use Rattle.bw_model.specs.declared.step.Step.TheVariants.{Slot, Row, PidBits, RowBits}
use Rattle.deltas.specs.declared.record.Record.{Record}
use Rattle.deltas.specs.Memory.{replaced_at}
use Rattle.deltas.specs.NamedPages.{NamesPage}
use Rattle.traces.specs.declared.trace.Entry.{Entry}
use Rattle.traces.specs.declared.trace.Entry.TheVariants.{Begin, Step}
use Rattle.traces.specs.discipline.Discipline.{IsAllowed}
use Rattle.traces.specs.discipline.Disciplined.{IsDisciplined}
use Rattle.traces.specs.discipline.Knowledge.{Ready, knows}
use Rattle.traces.specs.discipline.Recalled.{Recalled, Walk, AnyNames, IsStepSpent, IsUnread, cause_worth, is_removal, recalls, removal_level}
use Rattle.traces.specs.trace.Steps.{IsAnswer}
use Rattle.traces.specs.trace.Trace.{memory_of}
use Rattle.linearization.specs.Direct.{IsCause, IsDirect, IsExchangeOf, IsTake, Links, IsTheStep, TakesNone, is_step_of}
use Rattle.linearization.specs.Readers.{IsOfUse}
use Rattle.linearization.specs.Operations.{Operation, IsOperation, TakesOwnStep}
use Rattle.linearization.specs.Updates.{IsUpdateLink}
use Rattle.tree_law.specs.State.{IsState, IsUnended}

-- The operation is the last that its actor has begun.
pub record IsLast (entries : List Entry) (operation : Operation) : Type 0 where
  pub begun : IsOperation entries operation
  pub unended : IsUnended entries operation.start operation.actor

module _ (limits : Limits) (entries : List Entry) (operation : Operation) where
  -- The step gave the operation the number, and it has taken no step of the kind since.
  abbrev pub HasReadSince : (StepOf Record → Type 0) → StepOf Record → ℕ → Type 0
  HasReadSince Kind step number = (m : ℕ) × TakesOwnStep entries operation m step (Number number) × TakesNone limits entries operation m (length entries) Kind

  -- What is recalled, the operation has read.
  pub record Recollects (recalled : Recalled) : Type 0 where
    pub heads : (slot row : ℕ) → recalled.heads slot ≡ Some row → HasReadSince (IsExchangeOf slot) (Slot slot) row
    pub pids : (word bits : ℕ) → recalled.pids word ≡ Some bits → HasReadSince IsTake (PidBits word) bits
    pub rows : (word bits : ℕ) → recalled.rows word ≡ Some bits → HasReadSince IsTake (RowBits word) bits

  -- Where it last read slot 0; what it recalls of its reads since, it has read since, and no row besides, no removal of a lower level than
  -- the last one that was a cause, nor, before the first removal, a slot.
  pub record Walks (seen : ℕ → Option Record) (walk : Walk) : Type 0 where
    pub at : ℕ
    pub root : ℕ
    pub begins : TakesOwnStep entries operation at (Slot 0) (Number root)
    pub last : TakesNone limits entries operation at (length entries) (IsTheStep limits entries operation (Slot 0))
    pub slots : (page : ℕ) → walk.removed ≡ false → IsUnread page walk.visited → TakesNone limits entries operation at (length entries) (IsTheStep limits entries operation (Slot page))
    pub rows : (n row : ℕ) (answer : Answer Record) → at < n → TakesOwnStep entries operation n (Row row) answer
        → (content : Record) × (seen row ≡ Some content) × (is_removal content ≡ true → (walk.removed ≡ true) × (walk.level ≤ removal_level content))
    pub named : (page : ℕ) → AnyNames walk.records page → (n row : ℕ) × (content : Record) × (at < n) × TakesOwnStep entries operation n (Row row) (Content content) × NamesPage content page

  -- The causes from entry m on, and ten more, pay for the steps that the operation has taken since, and for this many more.
  pub record AffordsFrom (left m : ℕ) : Type 0 where
    pub causes : List ℕ
    pub increasing : IsStrictlyIncreasing causes
    pub each : All (λ cause. (m ≤ cause) × (cause < length entries) × IsCause limits entries operation cause) causes
    pub paid : count_by (is_step_of operation.actor) (drop m entries) + left ≤ cause_worth limits * (length causes + 10)

  -- The causes so far pay for the steps that the operation has taken, and for this many more; those from any later entry on, and ten more, for the
  -- steps since.
  pub record Affords (left : ℕ) : Type 0 where
    pub causes : List ℕ
    pub increasing : IsStrictlyIncreasing causes
    pub each : All (λ cause. (cause < length entries) × IsCause limits entries operation cause) causes
    pub paid : count_by (is_step_of operation.actor) (drop operation.start entries) + left ≤ cause_worth limits * (length causes + 1)
    pub since : (m : ℕ) → operation.start < m → m ≤ length entries → AffordsFrom left m

-- The trace is direct. What an actor recalls, its last operation has read, and not in the slot of a page that it has made
-- ready itself; and where that operation has linked an update, the actor knows of it.
pub record IsDirectState (limits : Limits) (entries : List Entry) : Type 0 where
  pub direct : IsDirect limits entries
  pub recollects : (operation : Operation) → IsLast entries operation → Recollects limits entries operation (recalls entries operation.actor)
  pub walks : (operation : Operation) → IsLast entries operation → (recalls entries operation.actor).walk.rooted ≡ true
      → Walks limits entries operation (knows entries operation.actor).read.seen (recalls entries operation.actor).walk
  pub foreign : (actor page head base : ℕ) → (recalls entries actor).heads page ≡ Some head → (knows entries actor).own.pages page ≡ Ready base → ⊥
  pub linked : (operation : Operation) (n : ℕ) (kind : Link) → IsLast entries operation → Links limits entries operation n kind → IsUpdateLink kind
      → IsSome (knows entries operation.actor).asked.linked

-- The actor's last operation, if it has begun one, can afford this many steps more.
abbrev pub Accounts : Limits → List Entry → ℕ → ℕ → Type 0
Accounts limits entries actor left = (operation : Operation) → IsLast entries operation → operation.actor ≡ actor → Affords limits entries operation left

-- After the entry, which is the actor's, the trace is a direct state still, in which the actor can afford this many steps more, and each other one as many as before.
pub record StaysDirect (limits : Limits) (entries : List Entry) (entry : Entry) (actor left : ℕ) : Type 0 where
  pub state : IsDirectState limits (entries ++ entry ∷ [])
  pub account : Accounts limits (entries ++ entry ∷ []) actor left
  pub others : (other more : ℕ) → other ≢ actor → Accounts limits entries other more → Accounts limits (entries ++ entry ∷ []) other more

-- A begin keeps one, with 2^18 steps at most.
abbrev pub BeginsDirectly : Type 0
BeginsDirectly =
    (limits : Limits) (entries : List Entry) (actor left : ℕ) (command : Command) → IsDirectState limits entries → left ≤ cause_worth limits
    → StaysDirect limits entries (Begin actor command) actor left

-- A step that is allowed, and of use, keeps one, where its operation has spent a step, or was paid, and few are left.
abbrev pub StepsDirectly : Type 0
StepsDirectly = (limits : Limits) (entries : List Entry) (actor left rest : ℕ) (step : StepOf Record) (answer : Answer Record) (reply : Option Reply) → IsState limits entries
    → IsAllowed limits actor (knows entries actor) step reply → IsOfUse (knows entries actor) step → IsAnswer (memory_of limits entries) step answer
    → IsDirectState limits entries → Accounts limits entries actor left
    → IsStepSpent limits (recalls entries actor) step answer left rest → rest ≤ cause_worth limits * 10 → StaysDirect limits entries (Step actor step answer reply) actor rest

-- Along these entries each operation says how many steps it has left: 2^18 at most when it begins; and with each step, which is
-- of use, it has spent one, or was paid, and few are left.
abbrev pub SpendsFrom : Limits → (ℕ → ℕ) → List Entry → List Entry → Type 0
SpendsFrom limits left before [] = ⊤
SpendsFrom limits left before (Begin actor command ∷ entries) = (rest : ℕ) × (rest ≤ cause_worth limits) × SpendsFrom limits (replaced_at actor rest left) (before ++ Begin actor command ∷ []) entries
SpendsFrom limits left before (Step actor step answer reply ∷ entries) =
    (rest : ℕ) × IsOfUse (knows before actor) step × IsStepSpent limits (recalls before actor) step answer (left actor) rest × (rest ≤ cause_worth limits * 10)
    × SpendsFrom limits (replaced_at actor rest left) (before ++ Step actor step answer reply ∷ []) entries

-- Then a trace in which each actor obeys its discipline is direct.
abbrev pub DirectRuns : Type 0
DirectRuns = (limits : Limits) (entries : List Entry) → IsDisciplined limits entries → SpendsFrom limits (λ actor. 0) [] entries → IsDirect limits entries
