-- What the law says of a core's memory and of what its actors get.
use Rattle.std.proofs.Common.{◌≡◌, ◌<◌, ℕ, zero, suc, List, Option, Some, None, refl, subst, sym, ap, ◌∙◌, arith}
use Rattle.std.specs.Prelude.{Bool, IsSome, IsTrue, is_some}
use Rattle.tree_limits.specs.declared.limits.Limits.{Limits}
use Rattle.bw_model.specs.declared.step.Step.{Step as StepOf}
use Rattle.bw_model.specs.declared.step.Step.TheVariants.{Slot, Row, Epoch, Announce, PidBits, RowBits, Place, Exchange, TakePid, TakeRow, Enter, Leave, Retire, ReusePids, ReuseRows}
use Rattle.deltas.specs.declared.record.Record.{Record}
use Rattle.deltas.specs.Memory.{Memory}
use Rattle.traces.specs.declared.trace.Entry.{Entry}
use Rattle.traces.specs.discipline.Discipline.{May}
use Rattle.traces.specs.discipline.Knowledge.{knows}
use Rattle.traces.specs.discipline.Recalled.{Recalled}
use Rattle.core_memory.specs.Looks.{StandsIn}
use Rattle.core_memory.specs.Tables.{CoreTable, IsWithinTable, memory_in}
use Rattle.round_model.specs.Machines.{AreThere}
use Rattle.traces.specs.trace.Trace.{memory_of}
use Rattle.traces.specs.trace.Within.{IsWithin}
use Rattle.op_parts.specs.Hands.{Hand}
use Rattle.tree_law.specs.Own.{RowsAreApart}
use Rattle.tree_law.specs.State.{IsState}
use Rattle.tree_law.specs.TraceLaws.{AnswersFit, HeadsStand}
use Rattle.op_machine.specs.machine.UnderWay.{UnderWay}
use Rattle.op_machine.specs.machine.Actors.{IsActorWith, IsRunning, wanted_by}
use Rattle.step_core.specs.Actors.{IsServed, IsServedAt, IsWithinAt}

-- whether a record was placed in the row
abbrev pub is_placed : Memory → ℕ → Bool
is_placed memory row = is_some (memory.rows row)

-- Whatever a slot names was placed.
abbrev pub HasHeads : Memory → Type 0
HasHeads memory = (pid : ℕ) → 0 < pid → 0 < memory.slots pid → IsTrue (is_placed memory (memory.slots pid))

-- The row that a step links over another one was placed.
abbrev pub Asks : (ℕ → Bool) → StepOf Record → Type 0
Asks placed (Exchange slot old new) = 0 < slot → 0 < old → 0 < new → IsTrue (placed new)
Asks placed step = Unit {0}

placed : (o : Option Record) (content : Record) → o ≡ Some content → IsTrue (is_some o)
placed o content e = rw e refl

module _ (limits : Limits) (entries : List Entry) (state : IsState limits entries) where
  abbrev m : Memory
  m = memory_of limits entries

  pub heads : HeadsStand → HasHeads m
  heads stand pid above some = let at = stand limits entries pid state above some in placed (m.rows (m.slots pid)) at.0 at.1

  module _ (a : ℕ) where
    -- the row that an allowed step links was placed
    pub asks : RowsAreApart → (step : StepOf Record) → May a (knows entries a) step → Asks (is_placed m) step
    asks apart (Exchange zero old new) may = λ above some other. absurd (omega arith)
    asks apart (Exchange (suc page) zero new) may = λ above some other. absurd (omega arith)
    asks apart (Exchange (suc page) (suc old) zero) may = λ above some other. absurd (omega arith)
    asks apart (Exchange (suc page) (suc old) (suc new)) may = λ above some other. placed (m.rows (suc new)) may.1.content ((apart limits entries state).written a (suc new) may.1.content may.1.placed)
    asks apart step may = tt

    served : AnswersFit → (step : StepOf Record) → May a (knows entries a) step → IsServed limits (knows entries a) m step
    served fit step may = λ answer told. fit limits entries a step answer state may told

    may_take : (r : Recalled) (hand : Hand) (running : UnderWay) → IsRunning limits a (knows entries a) r hand running → May a (knows entries a) running.wanted
    may_take r hand running at = subst (λ n. May n (knows entries a) running.wanted) at.own_actor at.goes.may.may

    pub served_at : AnswersFit → (r : Recalled) (hand : Hand) (running : Option UnderWay) → IsActorWith limits a (knows entries a) r hand running
        → IsServedAt limits (knows entries a) m (wanted_by running)
    served_at fit r hand None at = tt
    served_at fit r hand (Some running) at = served fit running.wanted (may_take r hand running at)

    -- the records that it has read stand
    pub read_stands : RowsAreApart → AreThere (StandsIn m) (knows entries a)
    read_stands apart row content seen = (apart limits entries state).stands a row content seen

    -- the table that has the memory has what the step asks for
    module _ (apart : RowsAreApart) (table : CoreTable) (same : table.limits ≡ limits) (has : memory_in table ≡ m) (who : a < limits.actors) where
      within : (step : StepOf Record) → IsWithin limits step → May a (knows entries a) step → IsWithinTable table a step
      within (Row row) h may =
          let stands = (apart limits entries state).placed a row may.1 in
          subst (λ (o : Option Record). IsSome o) (sym (ap (λ (memory : Memory). memory.rows row) has ∙ stands.1)) refl
      within Epoch h may = tt
      within (Place row content) h may = rw same h.0
      within (Exchange slot old new) h may = rw same h.0
      within (Enter epoch) h may = rw same who
      within Leave h may = rw same who
      within (Retire epoch) h may = omega (arith, h)
      within (ReusePids word bits) h may = rw same h.0
      within (ReuseRows word bits) h may = rw same h.0
      within other h may = rw same h

      pub within_at : (r : Recalled) (hand : Hand) (running : Option UnderWay) → IsActorWith limits a (knows entries a) r hand running → IsWithinAt table a (wanted_by running)
      within_at r hand None at = tt
      within_at r hand (Some running) at = within running.wanted (subst (λ l. IsWithin l running.wanted) at.own_limits at.goes.may.within) (may_take r hand running at)
