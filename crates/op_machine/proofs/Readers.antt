-- A step that an operation wants is of use: a reader wants none but reads, its enter and its leave.
use Rattle.op_machine.proofs.Words.{◌≡◌, Bool, Option, None, Some, false, true, subst, same_Some, is_writer, StepOf, Record, Knowledge, Recalled, Spares, Sweep, Hand, Goes, HoldsLimbo, Op}
use Rattle.op_machine.proofs.Words.{asked_by, Task}
use Rattle.bw_model.specs.declared.step.Step.TheVariants as step
use Rattle.round_model.specs.Descents as way
use Rattle.round_model.specs.Visits as page
use Rattle.epochs.specs.Limbo.{Limbo}
use Rattle.linearization.specs.Readers.{IsOfUse, IsReading}
use Rattle.op_machine.specs.machine.Shows.{ShowsState, wanted_at}
use Rattle.op_machine.specs.machine.States.{State, Begun, Epoch, Enter, Read, Write, Change, Leave}

-- the command of the operation is known
going : (task : Task) (spares : Spares) (k : Knowledge) (r : Recalled) (state : State) → ShowsState task spares k r state → k.asked.command ≡ Some task.command
going task spares k r (Enter epoch) h = h.0.asked.going
going task spares k r (Read round) h = h.seeks.asked.going
going task spares k r (Write round) h = h.seeks.asked.going
going task spares k r (Leave reply lacks) h = h.0.going
going task spares k r other h = h.asked.going

no_writer : {R : Type 0} (b : Bool) → b ≡ true → b ≡ false → R
no_writer b e f = absurd (cc (e, f))

visits : (visit : page.Visit) → IsReading (page.wanted_step visit)
visits visit = by_state visit.pid visit.state
  where
    by_state : (pid : _) (state : page.VisitState) → IsReading (page.wanted_at pid state)
    by_state pid page.Slot = tt
    by_state pid (page.Row head row) = tt

on_way : (state : way.WayState) → IsReading (way.wanted_at state)
on_way way.Root = tt
on_way (way.Page visit) = visits visit

-- what a reader wants in each state
reads_at : (task : Task) (spares : Spares) (k : Knowledge) (r : Recalled) (state : State) (asked : StepOf Record) → ShowsState task spares k r state → is_writer task.command ≡ false
    → wanted_at spares state ≡ Some asked → IsReading asked
reads_at task spares k r Begun asked h reader wants = absurd (cc wants)
reads_at task spares k r Epoch asked h reader wants = subst IsReading (same_Some step.Epoch asked wants) tt
reads_at task spares k r (Enter epoch) asked h reader wants = subst IsReading (same_Some (step.Enter epoch) asked wants) tt
reads_at task spares k r (Read round) asked h reader wants = subst IsReading (same_Some (way.wanted_at round.state) asked wants) (on_way round.state)
reads_at task spares k r (Write round) asked h reader wants = no_writer (is_writer task.command) h.writer reader
reads_at task spares k r (Change now then) asked h reader wants = no_writer (is_writer task.command) h.writer reader
reads_at task spares k r (Leave reply lacks) asked h reader wants = subst IsReading (same_Some step.Leave asked wants) tt

-- nor does it sweep
reads_after : (task : Task) (spares : Spares) (limbo : Limbo) (k : Knowledge) (r : Recalled) (sweep : Option Sweep) (state : State) (asked : StepOf Record)
    → ShowsState task spares k r state → HoldsLimbo task state limbo k sweep → is_writer task.command ≡ false
    → asked_by sweep (wanted_at spares state) ≡ Some asked → IsReading asked
reads_after task spares limbo k r None state asked h holds reader wants = reads_at task spares k r state asked h reader wants
reads_after task spares limbo k r (Some sweep) state asked h holds reader wants = no_writer (is_writer task.command) holds.writer reader

pub of_use : (k : Knowledge) (r : Recalled) (op : Op) (hand : Hand) (asked : StepOf Record) → Goes k r op hand asked → IsOfUse k asked
of_use k r op hand asked h = record {
  useful = h.may.useful;
  command = op.task.command;
  going = going op.task hand.spares k r op.state h.shows.stands;
  reads = λ reader. reads_after op.task hand.spares hand.limbo k r op.sweep op.state asked h.shows.stands h.shows.limbo reader h.wanted;
}
