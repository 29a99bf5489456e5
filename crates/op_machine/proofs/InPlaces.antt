-- What an answer makes of an operation's places.
use Rattle.op_machine.proofs.Words.{◌≡◌, ◌≤◌, inl, inr, ℕ, zero, Option, Some, false, true, refl, ap, ◌∙◌, arith, IsSome, same_Some, command_key, is_writer, Limits, Answer, Record}
use Rattle.op_machine.proofs.Words.{Fits, Knowledge, Recalled, ReadEnd, WriteEnd, Spares, Kind, left_at, left_for, left_round, one_round, AfterReading, AfterWriting, StepsInRound, Task}
use Rattle.op_machine.proofs.Words.{FollowsOutcome, TurnsInto, Then, Sweep}
use Rattle.bw_model.specs.Answers.{TellsNumber, answer_of}
use Rattle.bw_model.specs.declared.command.Reply.{Reply}
use Rattle.bw_model.specs.declared.step.Step.{Step}
use Rattle.bw_model.specs.declared.step.Step.TheVariants as step
use Rattle.round_model.specs.Machines.{AreThere, IsTold, IsToldThere}
use Rattle.round_model.specs.ReadRounds as read
use Rattle.round_model.specs.Rounds.{machine}
use Rattle.round_model.specs.WriteResponses as response
use Rattle.round_model.specs.WriteRounds as write
use Rattle.round_model.proofs.Reading as reading
use Rattle.round_model.proofs.Writing as writing
use Rattle.change_machine.specs.Changes.{Change as ChangeOf}
use Rattle.op_machine.specs.machine.Outcomes.{Faces, Outcome, is_changing, is_leaving, is_reading, is_writing, read_out, written_out}
use Rattle.op_machine.specs.machine.Places.{HaveLimits, OpPlaces, ReadsOn, WritesOn, state_at, state_of}
use Rattle.op_machine.specs.machine.Shows.{FitsLast, ShowsState, learn_last, wanted_at}
use Rattle.op_machine.specs.declared.places.StateKind.{StateKind}
use Rattle.op_machine.specs.declared.places.StateKind.TheVariants.{Read, Write, Change, Leave}
use Rattle.bw_model.specs.declared.step.Told.{Told}
use Rattle.bw_model.specs.declared.step.Told.TheVariants.{Number}
use Rattle.op_machine.specs.machine.States.{State}
use Rattle.op_machine.specs.machine.States as at
use Rattle.op_machine.proofs.Reading.{IsReading, reader_reads, writer_reads}
use Rattle.op_machine.proofs.Rounds.{read_comes, read_leaves, write_comes, write_leaves}

-- by the state that the places are, the operation stands there
module _ (reader : read.ReadRound) (writer : write.WriteRound) (change : ChangeOf) (then : Then) (reply : Reply) (lacks : Option Kind) where
  pub stands_reading : (stand : StateKind) → is_reading (state_at stand reader writer change then reply lacks) ≡ true → stand ≡ Read
  stands_reading Read is = refl
  stands_reading other is = cc

  pub stands_writing : (stand : StateKind) → is_writing (state_at stand reader writer change then reply lacks) ≡ true → stand ≡ Write
  stands_writing Write is = refl
  stands_writing other is = cc

  pub stands_changing : (stand : StateKind) → is_changing (state_at stand reader writer change then reply lacks) ≡ true → stand ≡ Change
  stands_changing Change is = refl
  stands_changing other is = cc

  pub stands_leaving : (stand : StateKind) → is_leaving (state_at stand reader writer change then reply lacks) ≡ true → stand ≡ Leave
  stands_leaving Leave is = refl
  stands_leaving other is = cc

-- what is told of a slot is its number, and nothing but a record is told of a row
module _ (limits : Limits) (k : Knowledge) where
  of_slot : (pid : ℕ) (told : Told) → Fits limits k (step.Slot pid) (answer_of told) → TellsNumber told
  of_slot pid (Number n) fits = tt
  of_slot zero told fits = absurd fits
  of_slot pid told fits = absurd fits

  of_row : (row : ℕ) (told : Told) → Fits limits k (step.Row row) (answer_of told) → TellsNumber told
  of_row row (Number n) fits = tt
  of_row row other fits = absurd fits

  is_number : (asked : Step Record) (told : Told) → IsReading asked → Fits limits k asked (answer_of told) → TellsNumber told
  is_number asked told reads fits = elim reads [
    | inl slot ↦ of_slot slot.0 told (rw slot.1 at fits)
    | inr row ↦ of_row row.0 told (rw row.1 at fits)
  ]

module _ (task : Task) (spares : Spares) (k : Knowledge) (r : Recalled) (places : OpPlaces) where
  abbrev Stands : Type 0
  Stands = ShowsState task spares k r (state_of places)

  abbrev FitsThere : Answer Record → Type 0
  FitsThere told = FitsLast task.limits k (wanted_at spares (state_of places)) told

  abbrev ThenThere : (ℕ → Record → Type 0) → Answer Record → Type 0
  ThenThere is_there told = AreThere is_there (learn_last k (wanted_at spares (state_of places)) told)

  -- a reader's round is told numbers and rows,
  pub reader_number : (told : Told) → places.stand ≡ Read → Stands → FitsThere (answer_of told) → TellsNumber told
  reader_number told is h f =
      let shows = rw is at h in
      is_number task.limits k (read.wanted_step places.reader.round) told (reader_reads places.reader.round k r shows.shows) (rw is at f)

  pub reader_told : (told : Answer Record) → places.stand ≡ Read → Stands → FitsThere told → IsTold (machine read.reading) places.reader.round told
  reader_told told is h f =
      let shows = rw is at h in
      let fits : Fits task.limits k (read.wanted_step places.reader.round) told = rw is at f in
      record { k = k; r = r; shows = shows.shows; fits = rw shows.limits fits }

  -- it has what was read there, and wants what the operation wants,
  pub reader_told_there : (is_there : ℕ → Record → Type 0) (told : Answer Record) → places.stand ≡ Read → Stands → FitsThere told → ThenThere is_there told
      → IsToldThere is_there (machine read.reading) places.reader.round told
  reader_told_there is_there told is h f there =
      let shows = rw is at h in
      let fits : Fits task.limits k (read.wanted_step places.reader.round) told = rw is at f in
      record { k = k; r = r; shows = shows.shows; fits = rw shows.limits fits; there = rw is at there }

  pub reader_asked : (asked : Step Record) → places.stand ≡ Read → wanted_at spares (state_of places) ≡ Some asked → read.wanted_step places.reader.round ≡ asked
  reader_asked asked is wants = same_Some (read.wanted_step places.reader.round) asked (rw is at wants)

  -- for the command's key
  pub reader_key : places.stand ≡ Read → Stands → places.reader.round.key ≡ command_key task.command
  reader_key is h = let shows = rw is at h in shows.key

  pub reader_is : places.stand ≡ Read → Stands → is_writer task.command ≡ false
  reader_is is h = let shows = rw is at h in shows.reader

  pub writer_is : places.stand ≡ Write → Stands → is_writer task.command ≡ true
  writer_is is h = let shows = rw is at h in shows.writer

  -- and so is a writer's
  pub writer_number : (told : Told) → places.stand ≡ Write → Stands → FitsThere (answer_of told) → TellsNumber told
  writer_number told is h f =
      let shows = rw is at h in
      is_number task.limits k (write.wanted_step places.writer.round) told (writer_reads places.writer.round k r shows.shows) (rw is at f)

  pub writer_told : (told : Answer Record) → places.stand ≡ Write → Stands → FitsThere told → IsTold (machine response.writing) places.writer.round told
  writer_told told is h f =
      let shows = rw is at h in
      let fits : Fits task.limits k (write.wanted_step places.writer.round) told = rw is at f in
      record { k = k; r = r; shows = shows.shows; fits = rw shows.round_of.limits fits }

  pub writer_told_there : (is_there : ℕ → Record → Type 0) (told : Answer Record) → places.stand ≡ Write → Stands → FitsThere told → ThenThere is_there told
      → IsToldThere is_there (machine response.writing) places.writer.round told
  writer_told_there is_there told is h f there =
      let shows = rw is at h in
      let fits : Fits task.limits k (write.wanted_step places.writer.round) told = rw is at f in
      record { k = k; r = r; shows = shows.shows; fits = rw shows.round_of.limits fits; there = rw is at there }

  pub writer_asked : (asked : Step Record) → places.stand ≡ Write → wanted_at spares (state_of places) ≡ Some asked → write.wanted_step places.writer.round ≡ asked
  writer_asked asked is wants = same_Some (write.wanted_step places.writer.round) asked (rw is at wants)

-- what the rounds make of an answer
module _ (old new : OpPlaces) (spares : Spares) (told : Answer Record) where
  pub reads_into : (result : Option ReadEnd) → old.stand ≡ Read → ReadsOn old told new result → TurnsInto (state_of old) spares told (state_of new) spares (read_out result)
  reads_into result is reads =
      let there : new.stand ≡ Read = ap (λ (p : OpPlaces). p.stand) reads.only ∙ is in
      rw (is, there) (record {
        comes =
            λ task k r h fits. read_comes task spares k r old.reader.round new.reader.round told h fits reads.same result
            (reading.follows_from old.reader.round new.reader.round told result reads.responds k r h.shows (rw h.limits fits));
        leaves =
            λ task k r h fits. read_leaves task spares k r old.reader.round new.reader.round told h fits result
            (reading.spends_from old.reader.round new.reader.round told result reads.responds (left_round task.limits) (one_round task.limits) k r h.shows (rw h.limits fits));
      })

  pub writes_into : (result : Option WriteEnd) → old.stand ≡ Write → WritesOn old told new result → TurnsInto (state_of old) spares told (state_of new) spares (written_out result)
  writes_into result is writes =
      let there : new.stand ≡ Write = ap (λ (p : OpPlaces). p.stand) writes.only ∙ is in
      rw (is, there) (record {
        comes =
            λ task k r h fits. write_comes task spares k r old.writer.round new.writer.round told h fits writes.same result writes.responds
            (writing.follows_from old.writer.round new.writer.round told result writes.responds k r h.shows (rw h.round_of.limits fits));
        leaves =
            λ task k r h fits. write_leaves task spares k r old.writer.round new.writer.round told h fits result
            (writing.spends_from old.writer.round new.writer.round told result writes.responds (left_round task.limits) (one_round task.limits) k r h.shows (rw h.round_of.limits fits));
      })

  -- the operation makes it of the answer, with what follows
  pub reads_step : (task : Task) (result : Option ReadEnd) → old.stand ≡ Read → ReadsOn old told new result → (to : State)
      → AfterReading task new.reader.round result to → StepsInRound task (state_of old) told to
  reads_step task result is reads to goes = rw is (record { next = new.reader.round; end = result; responds = reads.responds; same = reads.same; goes = goes })

  pub reads_state : (result : Option ReadEnd) → old.stand ≡ Read → ReadsOn old told new result → state_of new ≡ at.Read new.reader.round
  reads_state result is reads = let there : new.stand ≡ Read = ap (λ (p : OpPlaces). p.stand) reads.only ∙ is in rw there refl

  pub writes_step : (task : Task) (result : Option WriteEnd) → old.stand ≡ Write → WritesOn old told new result → (to : State)
      → AfterWriting task new.writer.round result to → StepsInRound task (state_of old) told to
  writes_step task result is writes to goes = rw is (record { next = new.writer.round; end = result; responds = writes.responds; goes = goes })

  pub writes_state : (result : Option WriteEnd) → old.stand ≡ Write → WritesOn old told new result → state_of new ≡ at.Write new.writer.round
  writes_state result is writes = let there : new.stand ≡ Write = ap (λ (p : OpPlaces). p.stand) writes.only ∙ is in rw there refl

  -- with the limits that they had
  pub reads_have : (limits : Limits) (result : Option ReadEnd) → HaveLimits limits old → ReadsOn old told new result → HaveLimits limits new
  reads_have limits result have reads = record { reader = reads.same.limits ∙ have.reader; writer = ap (λ (p : OpPlaces). p.writer.round.limits) reads.only ∙ have.writer }

  pub writes_have : (limits : Limits) (result : Option WriteEnd) → HaveLimits limits old → WritesOn old told new result → HaveLimits limits new
  writes_have limits result have writes = record { reader = ap (λ (p : OpPlaces). p.reader.round.limits) writes.only ∙ have.reader; writer = writes.same.limits ∙ have.writer }

-- what an operation makes of what it has come to, where only its places change
pub comes_to : (task : Task) (sweep : Option Sweep) (old new : State) (spares : Spares) (outcome : Outcome)
    → ((k : Knowledge) (r : Recalled) → Faces task spares k r outcome → ShowsState task spares k r new)
    → ((r : Recalled) → left_at task.limits r spares new ≤ left_for task.limits outcome) → IsSome (wanted_at spares new)
    → FollowsOutcome (record { task = task; sweep = sweep; state = old }) spares outcome (record { task = task; sweep = sweep; state = new })
comes_to task sweep old new spares outcome stands few asks = record {
  stands = stands;
  few = λ k r faces. let left = few r in omega (arith, left);
  asks = asks;
  same = record { limits = refl; actor = refl; command = refl };
  sweep = refl;
}
