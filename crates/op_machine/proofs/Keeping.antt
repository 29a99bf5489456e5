-- What is in limbo stays as it is known, but for what a sweep does and a change.
use Rattle.op_machine.proofs.Words.{◌≡◌, inl, inr, ℕ, zero, suc, false, refl, sym, subst, Limits, Answer, Record, Fits, Knowledge, Limbos, learn, Recalled, Spares, is_changing, Task}
use Rattle.op_machine.proofs.Words.{AreKept}
use Rattle.bw_model.specs.declared.step.Answer.TheVariants.{Start, Number}
use Rattle.bw_model.specs.declared.step.Step.{Step}
use Rattle.bw_model.specs.declared.step.Step.TheVariants as step
use Rattle.epochs.specs.Limbo.{Limbo}
use Rattle.op_machine.specs.machine.Shows.{FitsLast, ShowsState, learn_last, wanted_at}
use Rattle.op_machine.specs.machine.States.{State, Epoch, Read, Write, Change}
use Rattle.op_machine.proofs.Reading.{IsReading, reader_reads, writer_reads}

-- the step reads a slot, or a record
slot_limbo : (k : Knowledge) (page : ℕ) (told : Answer Record) → (learn k (step.Slot page) told).limbo ≡ k.limbo
slot_limbo k zero (Number n) = refl
slot_limbo k (suc page) (Number zero) = refl
slot_limbo k page told = refl

row_limbo : (k : Knowledge) (row : ℕ) (told : Answer Record) → (learn k (step.Row row) told).limbo ≡ k.limbo
row_limbo k row Start = refl
row_limbo k row other = refl

read_limbo : (k : Knowledge) (asked : Step Record) (told : Answer Record) → IsReading asked → (learn k asked told).limbo ≡ k.limbo
read_limbo k asked told (inl slot) = rw slot.1 (slot_limbo k slot.0 told)
read_limbo k asked told (inr row) = rw row.1 (row_limbo k row.0 told)

module _ (task : Task) (spares : Spares) (k : Knowledge) (r : Recalled) (limbo : Limbo) (told : Answer Record) (kept : AreKept task.limits task.actor limbo k.limbo)
    (reads : (limits : Limits) (actor n : ℕ) (limbo : Limbo) (k : Knowledge) → AreKept limits actor limbo k.limbo → Fits limits k step.Epoch (Number n) →
    AreKept limits actor limbo (learn k step.Epoch (Number n)).limbo) where
  still : (now : Limbos) → now ≡ k.limbo → AreKept task.limits task.actor limbo now
  still now same = subst (AreKept task.limits task.actor limbo) (sym same) kept

  epoch : (a : Answer Record) → Fits task.limits k step.Epoch a → AreKept task.limits task.actor limbo (learn k step.Epoch a).limbo
  epoch (Number n) fits = reads task.limits task.actor n limbo k kept fits
  epoch other fits = absurd fits

  pub work_keeps : (state : State) → ShowsState task spares k r state → is_changing state ≡ false → FitsLast task.limits k (wanted_at spares state) told
      → AreKept task.limits task.actor limbo (learn_last k (wanted_at spares state) told).limbo
  work_keeps Epoch stands at_rest fits = epoch told fits
  work_keeps (Read round) stands at_rest fits = still _ (read_limbo k _ told (reader_reads round k r stands.shows))
  work_keeps (Write round) stands at_rest fits = still _ (read_limbo k _ told (writer_reads round k r stands.shows))
  work_keeps (Change now then) stands at_rest fits = cc
  work_keeps other stands at_rest fits = kept
