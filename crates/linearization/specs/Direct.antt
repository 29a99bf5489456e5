-- An operation takes few steps but for those that another actor's change caused.
use Rattle.std.specs.Prelude.{◌≡◌, ◌≢◌, ◌<◌, ◌≤◌, ◌+◌, ◌*◌, ◌/◌, ◌%◌, ℕ, suc, List, length, Bool, true, false, Some, ◌⊎◌, slice_range, ◌==◌}
use Rattle.std.specs.Int.{bit_at}
use Rattle.std.specs.List.{All, count_by}
use Rattle.std.specs.List.Sorted.{IsStrictlyIncreasing}
use Rattle.tree_limits.specs.declared.limits.Limits.{Limits}
use Rattle.bw_model.specs.Replies.{is_writer}
use Rattle.bw_model.specs.declared.step.Answer.{Answer}
use Rattle.bw_model.specs.declared.step.Answer.TheVariants.{Number, Content, Whether}
use Rattle.bw_model.specs.declared.step.Link.{Link}
use Rattle.bw_model.specs.declared.step.Link.TheVariants as link
use Rattle.bw_model.specs.declared.step.Step.{Step as StepOf}
use Rattle.bw_model.specs.declared.step.Step.TheVariants.{Slot, Row, PidBits, RowBits, Exchange, TakePid, TakeRow}
use Rattle.deltas.specs.declared.record.Record.{Record}
use Rattle.deltas.specs.declared.record.Record.TheVariants as delta
use Rattle.deltas.specs.declared.record.Remove.{Remove}
use Rattle.deltas.specs.NamedPages.{NamesPage}
use Rattle.traces.specs.discipline.Recalled.{cause_worth}
use Rattle.traces.specs.declared.trace.Entry.{Entry}
use Rattle.traces.specs.declared.trace.Entry.TheVariants.{Begin, Step}
use Rattle.traces.specs.chain.Chains.{IsChainOf}
use Rattle.traces.specs.trace.Trace.{memory_at}
use Rattle.linearization.specs.Links.{link_of}
use Rattle.linearization.specs.Operations.{Operation, IsOperation, IsOwnStep, TakesOwnStep}
use Rattle.linearization.specs.Phases.{Phase, IsInPhase, cleared, free, owned}
use Rattle.linearization.specs.Readers.{IsReading}

abbrev pub IsExchangeOf : ℕ → StepOf Record → Type 0
IsExchangeOf slot (Exchange changed old new) = changed ≡ slot
IsExchangeOf slot _ = ⊥

abbrev pub IsTake : StepOf Record → Type 0
IsTake (TakePid pid) = Unit {0}
IsTake (TakeRow row) = Unit {0}
IsTake _ = ⊥

module _ (limits : Limits) (entries : List Entry) (operation : Operation) where
  -- Between two steps the operation took no step of the kind.
  abbrev pub TakesNone : ℕ → ℕ → (StepOf Record → Type 0) → Type 0
  TakesNone m n Kind = (between : ℕ) (step : StepOf Record) (answer : Answer Record) → m < between → between < n → TakesOwnStep entries operation between step answer → ¬ Kind step

  abbrev pub IsTheStep : StepOf Record → StepOf Record → Type 0
  IsTheStep wanted step = step ≡ wanted

  -- Its exchange won, with this link.
  abbrev pub Links : ℕ → Link → Type 0
  Links n kind = (slot old new : ℕ) × TakesOwnStep entries operation n (Exchange slot old new) (Whether true) × (link_of (memory_at limits entries n) slot old new ≡ Some kind)

  -- Its exchange lost, though it had read the expected number in the slot.
  abbrev pub Loses : ℕ → Type 0
  Loses n =
      (slot old new m : ℕ) × TakesOwnStep entries operation n (Exchange slot old new) (Whether false) × (m < n) × TakesOwnStep entries operation m (Slot slot)
      (Number old) × TakesNone m n (IsExchangeOf slot)

  -- It did not get what it had read as free.
  abbrev pub MissesNumber : ℕ → Type 0
  MissesNumber n = (item bits m : ℕ) × (m < n) × (bit_at bits (item % 64) ≡ 1) × TakesNone m n IsTake
      × ((TakesOwnStep entries operation n (TakePid item) (Whether false) × TakesOwnStep entries operation m (PidBits (item / 64)) (Number bits))
      ⊎ (TakesOwnStep entries operation n (TakeRow item) (Whether false) × TakesOwnStep entries operation m (RowBits (item / 64)) (Number bits)))

  -- Since it last read slot 0, at m, it meets a removed page, or an emptied slot, for the first time.
  abbrev pub Meets : ℕ → Type 0
  Meets n = (m root : ℕ) × (m < n) × TakesOwnStep entries operation m (Slot 0) (Number root) × TakesNone m n (IsTheStep (Slot 0))
      × (((row : ℕ) × (remove : Remove) × TakesOwnStep entries operation n (Row row) (Content (delta.Remove remove)) × TakesNone m n (IsTheStep (Row row)))
      ⊎ ((pid row k : ℕ) × (content : Record) × TakesOwnStep entries operation n (Slot pid) (Number 0) × TakesNone m n (IsTheStep (Slot pid))
      × (m < k) × (k < n) × TakesOwnStep entries operation k (Row row) (Content content) × NamesPage content pid))

  abbrev pub IsCause : ℕ → Type 0
  IsCause n = ((kind : Link) × Links n kind × (kind ≢ link.Ready) × (kind ≢ link.Undo)) ⊎ Loses n ⊎ MissesNumber n ⊎ Meets n

abbrev pub is_step_of : ℕ → Entry → Bool
is_step_of actor (Begin other command) = false
is_step_of actor (Step other step answer reply) = other == actor

-- The PID is one that there is, of a page that is in the tree before step n, or was.
abbrev pub IsOfTree : Limits → List Entry → ℕ → ℕ → Type 0
IsOfTree limits entries n pid = (phase : Phase) × IsInPhase limits entries n pid phase × (phase ≢ free) × (phase ≢ owned) × (pid < limits.pids)

-- Of each operation that has got as far as step n: the causes pay for the steps, and those from any later entry on, and ten more, for the steps since; it links
-- one update at most, it consolidates no base alone, a
-- reader only reads, and a slot that is found empty is that of a page that was cleared. A slot in which it finds a row is that of a page of the
-- tree; each exchange that it wins has a link, and one that fills a slot, or empties it again, is of a page which nobody has put into the tree yet.
pub record IsDirect (limits : Limits) (entries : List Entry) : Type 0 where
  pub few : (operation : Operation) (n : ℕ) → IsOperation entries operation → IsOwnStep entries operation n
      → (causes : List ℕ) × IsStrictlyIncreasing causes × All (λ cause. (cause ≤ n) × IsCause limits entries operation cause) causes
      × (count_by (is_step_of operation.actor) (slice_range entries operation.start (suc n)) ≤ cause_worth limits * (length causes + 1))
  pub since : (operation : Operation) (m n : ℕ) → IsOperation entries operation → operation.start < m → m ≤ n → IsOwnStep entries operation n
      → (causes : List ℕ) × IsStrictlyIncreasing causes × All (λ cause. (m ≤ cause) × (cause ≤ n) × IsCause limits entries operation cause) causes
      × (count_by (is_step_of operation.actor) (slice_range entries m (suc n)) ≤ cause_worth limits * (length causes + 10))
  pub once : (operation : Operation) (m n : ℕ) (first second : Link) → IsOperation entries operation → Links limits entries operation m first → Links limits entries operation n second
      → (first ≡ link.Put) ⊎ (first ≡ link.Delete) → (second ≡ link.Put) ⊎ (second ≡ link.Delete) → m ≡ n
  pub useful : (operation : Operation) (n slot old new : ℕ) (chain : List Record) → IsOperation entries operation → TakesOwnStep entries operation n (Exchange slot old new) (Whether true)
      → link_of (memory_at limits entries n) slot old new ≡ Some link.Base → IsChainOf (memory_at limits entries n) slot chain → 1 < length chain
  pub reads : (operation : Operation) (n : ℕ) (step : StepOf Record) (answer : Answer Record) → IsOperation entries operation
      → is_writer operation.command ≡ false → TakesOwnStep entries operation n step answer → IsReading step
  pub emptied : (operation : Operation) (n pid : ℕ) → IsOperation entries operation → TakesOwnStep entries operation n (Slot pid) (Number 0) → IsInPhase limits entries n pid cleared
  pub settled : (operation : Operation) (n pid row : ℕ) → IsOperation entries operation → TakesOwnStep entries operation n (Slot pid) (Number row) → 0 < pid → 0 < row → IsOfTree limits entries n pid
  pub links : (operation : Operation) (n slot old new : ℕ) → IsOperation entries operation → TakesOwnStep entries operation n (Exchange slot old new) (Whether true)
      → (kind : Link) × (link_of (memory_at limits entries n) slot old new ≡ Some kind) × ((kind ≡ link.Ready) ⊎ (kind ≡ link.Undo) → IsInPhase limits entries n slot owned)
