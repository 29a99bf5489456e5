-- What a round's next step leaves an operation in.
use Rattle.op_machine.proofs.Words.{◌≡◌, inl, inr, refl, sym, ap, Option, Some, None, ◌∙◌, arith, Limits, Answer, Record, Fits, Knowledge, learn, IsStepSpent, Recalled, recall}
use Rattle.op_machine.proofs.Words.{ReadGoal, ReadEnd, WriteEnd, Spares, LeavesFor, left_at, left_for, left_round, one_round, Task}
use Rattle.round_model.specs.ReadRounds as read
use Rattle.round_model.specs.Rounds.{Follows, Responds, Sees}
use Rattle.round_model.specs.WriteResponses as response
use Rattle.round_model.specs.WriteRounds as write
use Rattle.round_model.specs.ReadGoals as read_to
use Rattle.round_model.specs.Visits.{Sight, Empty, Whole}
use Rattle.round_model.specs.Courses as write_to
use Rattle.round_model.specs.Courses.{Seek}
use Rattle.round_model.specs.ReadEnds as read_end
use Rattle.round_model.specs.WriteEnds as write_end
use Rattle.op_machine.specs.machine.Outcomes as outcome
use Rattle.op_machine.specs.machine.Outcomes.{Comes, FacesRead, FacesWritten, HasSought, read_out, written_out}
use Rattle.op_machine.specs.machine.Shows.{IsInReadRound, IsInWriteRound}
use Rattle.op_machine.specs.machine.States as at
use Rattle.op_machine.proofs.Worth.{enough}
use Rattle.op_machine.proofs.Reading.{reader_reads, seeks_still, writer_reads}

module _ (task : Task) (spares : Spares) (k : Knowledge) (r : Recalled) (round new : read.ReadRound) (told : Answer Record)
    (h : IsInReadRound task spares k r round) (fits : Fits task.limits k (read.wanted_step round) told) where
  pub read_on : read.ReadsForTheSame round new → Follows read.reading k r round told new None
      → IsInReadRound task spares (learn k (read.wanted_step round) told) (recall r (read.wanted_step round) told) new
  read_on same follows = record {
    seeks = seeks_still task spares k h.seeks task.limits (read.wanted_step round) told (reader_reads round k r h.shows) fits;
    reader = h.reader;
    limits = same.limits ∙ h.limits;
    key = same.key ∙ h.key;
    shows = follows;
  }

  pub read_ended : (end : ReadEnd) → read.EndsRead round (learn k (read.wanted_step round) told) (recall r (read.wanted_step round) told) end
      → FacesRead task spares (learn k (read.wanted_step round) told) (recall r (read.wanted_step round) told) end
  read_ended end ends = record {
    seeks = seeks_still task spares k h.seeks task.limits (read.wanted_step round) told (reader_reads round k r h.shows) fits;
    reader = h.reader;
    round = round;
    limits = h.limits;
    key = h.key;
    ends = ends;
  }

  same_pids : round.limits.pids ≡ task.limits.pids
  same_pids = ap (λ (l : Limits). l.pids) h.limits

  -- where a page wasn't there
  missed : (goal : ReadGoal) → round.goal ≡ goal → read.MissesRead (left_round task.limits) (one_round task.limits) r round told goal
      → IsStepSpent task.limits r (read.wanted_step round) told (left_at task.limits r spares (at.Read round)) (one_round task.limits)
  missed read_to.Seek is either = elim either [ inl paid ↦ inr (paid, (let w = enough task.limits in omega (arith, w))) | inr left ↦ inl (omega (arith, left)) ]
  missed (read_to.Left removed) is either = elim either [ inl paid ↦ inr (paid, (let w = enough task.limits in omega (arith, w))) | inr left ↦ inl (omega (arith, left)) ]
  missed read_to.Beyond is kept = inl (omega (arith, kept))

  pub read_went : read.Spends (left_round task.limits) (one_round task.limits) r round told new None
      → IsStepSpent task.limits r (read.wanted_step round) told (left_at task.limits r spares (at.Read round)) (left_at task.limits (recall r (read.wanted_step round) told) spares (at.Read new))
  read_went spends = elim spends [
    | inl less ↦ inl (omega (arith, less))
    | inr paid ↦ let w = enough task.limits in let same = same_pids in inr (paid.0, omega (arith, w, same))
  ]

  pub read_left : (end : ReadEnd) → read.Spends (left_round task.limits) (one_round task.limits) r round told new (Some end)
      → IsStepSpent task.limits r (read.wanted_step round) told (left_at task.limits r spares (at.Read round)) (left_for task.limits (outcome.Read end))
  read_left read_end.Again misses = missed round.goal refl misses
  read_left (read_end.Removed page) reserved = inl (omega (arith, reserved))
  read_left (read_end.Leaf leaf) some = inl (omega (arith, some))
  read_left (read_end.Beside left removed) some = inl (omega (arith, some))

  -- whatever the round makes of the answer
  pub read_comes : read.ReadsForTheSame round new → (result : Option ReadEnd) → Follows read.reading k r round told new result
      → Comes task k r (Some (read.wanted_step round)) told (at.Read new) spares (read_out result)
  read_comes same None follows = (read_on same follows, refl)
  read_comes same (Some end) ends = read_ended end ends

  pub read_leaves : (result : Option ReadEnd) → read.Spends (left_round task.limits) (one_round task.limits) r round told new result
      → LeavesFor task.limits r (Some (read.wanted_step round)) told (left_at task.limits r spares (at.Read round)) (at.Read new) spares (read_out result)
  read_leaves None spends = read_went spends
  read_leaves (Some end) spends = read_left end spends

-- a round that has gone to a leaf from the first goes there, and one that hasn't doesn't
still_goes_left : (old new : write.WriteRound) (told : Answer Record) → Responds response.writing old told new None → new.goal ≡ Seek → old.goal ≡ Seek
still_goes_left old new told responds is = elim responds [
  | inl on ↦ sym (ap (λ (round : write.WriteRound). round.goal) on.same) ∙ is
  | inr from ↦ by_sight from.sight from.sees
]
  where
    back : (to : write.WriteRound) → new ≡ to → to.goal ≡ Seek
    back to same = rw (← same) is

    by_sight : (sight : Sight) → Sees response.writing old sight new None → old.goal ≡ Seek
    by_sight Empty sees = cc
    by_sight (Whole version) sees = elim sees [
      | inl aside ↦ back _ aside.goes
      | inr rest ↦ elim rest [
        | inl below ↦ back _ below.goes
        | inr last ↦ elim last [
          | inl merge ↦ (let e = back _ merge.goes in cc)
          | inr unterm ↦ (let e = back _ unterm.goes in cc)
        ]
      ]
    ]

-- a round that ends at the leaf of a key has gone there
has_sought : (old new : write.WriteRound) (told : Answer Record) (end : WriteEnd) → Responds response.writing old told new (Some end) → HasSought old end
has_sought old new told (write_end.Leaf parent leaf) responds = elim responds [
  | inl on ↦ (let e = on.none in cc)
  | inr from ↦ by_sight from.sight from.sees
]
  where
    by_sight : (sight : Sight) → Sees response.writing old sight new (Some (write_end.Leaf parent leaf)) → old.goal ≡ Seek
    by_sight Empty sees = cc
    by_sight (Whole version) sees = sees.seeks
has_sought old new told write_end.Again responds = tt
has_sought old new told other responds = tt

module _ (task : Task) (spares : Spares) (k : Knowledge) (r : Recalled) (round new : write.WriteRound) (told : Answer Record)
    (h : IsInWriteRound task spares k r round) (fits : Fits task.limits k (write.wanted_step round) told) where
  pub write_on : Responds response.writing round told new None → write.WritesForTheSame round new → Follows response.writing k r round told new None
      → IsInWriteRound task spares (learn k (write.wanted_step round) told) (recall r (write.wanted_step round) told) new
  write_on responds same follows = record {
    seeks = seeks_still task spares k h.seeks task.limits (write.wanted_step round) told (writer_reads round k r h.shows) fits;
    writer = h.writer;
    round_of = record {
      limits = same.limits ∙ h.round_of.limits;
      some = rw same.due h.round_of.some;
      key = λ is. same.key ∙ h.round_of.key (still_goes_left round new told responds is);
      due = λ is. same.due ∙ h.round_of.due (still_goes_left round new told responds is);
      tends = λ is. same.tends ∙ h.round_of.tends (still_goes_left round new told responds is);
      splits = λ is. same.splits ∙ h.round_of.splits (still_goes_left round new told responds is);
    };
    shows = follows;
  }

  pub write_end_kind : (end : WriteEnd) → Responds response.writing round told new (Some end)
      → write.EndsWrite round (learn k (write.wanted_step round) told) (recall r (write.wanted_step round) told) end
      → FacesWritten task spares (learn k (write.wanted_step round) told) (recall r (write.wanted_step round) told) end
  write_end_kind end responds ends = record {
    seeks = seeks_still task spares k h.seeks task.limits (write.wanted_step round) told (writer_reads round k r h.shows) fits;
    writer = h.writer;
    round = round;
    round_of = h.round_of;
    sought = has_sought round new told end responds;
    ends = ends;
  }

  written_pids : round.limits.pids ≡ task.limits.pids
  written_pids = ap (λ (l : Limits). l.pids) h.round_of.limits

  -- where a page wasn't there
  write_missed : (goal : write_to.WriteGoal) → write.MissesWrite (left_round task.limits) (one_round task.limits) r round told goal
      → IsStepSpent task.limits r (write.wanted_step round) told (left_at task.limits r spares (at.Write round)) (one_round task.limits)
  write_missed Seek paid = inr (paid, (let w = enough task.limits in omega (arith, w)))
  write_missed (write_to.Left pid) misses = elim misses [ inl paid ↦ inr (paid, (let w = enough task.limits in omega (arith, w))) | inr was ↦ inl (omega arith) ]
  write_missed (write_to.Merge left) paid = inr (paid, (let w = enough task.limits in omega (arith, w)))
  write_missed (write_to.Unterm parent left) kept = inl (omega (arith, kept))

  pub write_went : write.Spends (left_round task.limits) (one_round task.limits) r round told new None
      → IsStepSpent task.limits r (write.wanted_step round) told (left_at task.limits r spares (at.Write round)) (left_at task.limits (recall r (write.wanted_step round) told) spares (at.Write new))
  write_went spends = elim spends [
    | inl less ↦ inl (omega (arith, less))
    | inr paid ↦ let w = enough task.limits in let same = written_pids in inr (paid.0, omega (arith, w, same))
  ]

  pub write_left : (end : WriteEnd) → write.Spends (left_round task.limits) (one_round task.limits) r round told new (Some end)
      → IsStepSpent task.limits r (write.wanted_step round) told (left_at task.limits r spares (at.Write round)) (left_for task.limits (outcome.Written end))
  write_left write_end.Again misses = write_missed round.goal misses
  write_left write_end.Done kept = inl (omega (arith, kept))
  write_left (write_end.Removed page) reserved = inl (omega (arith, reserved))
  write_left (write_end.Due plan after) some = inl (omega (arith, some))
  write_left (write_end.Leaf parent leaf) some = inl (omega (arith, some))

  -- whatever the round makes of the answer
  pub write_comes : write.WritesForTheSame round new → (result : Option WriteEnd) → Responds response.writing round told new result
      → Follows response.writing k r round told new result → Comes task k r (Some (write.wanted_step round)) told (at.Write new) spares (written_out result)
  write_comes same None responds follows = (write_on responds same follows, refl)
  write_comes same (Some end) responds ends = write_end_kind end responds ends

  pub write_leaves : (result : Option WriteEnd) → write.Spends (left_round task.limits) (one_round task.limits) r round told new result
      → LeavesFor task.limits r (Some (write.wanted_step round)) told (left_at task.limits r spares (at.Write round)) (at.Write new) spares (written_out result)
  write_leaves None spends = write_went spends
  write_leaves (Some end) spends = write_left end spends
