-- What a step that reads a slot or a row leaves as it was.
use Rattle.std.proofs.Common.{◌≡◌, ◌==◌, ◌⊎◌, inl, inr, ℕ, zero, suc, Bool, true, false, cond, Option, Some, None, refl, ◌∙◌}
use Rattle.op_machine.proofs.Words.{IfSome, eqb-true, Limits, Answer, Record, replaced_at, Fits, Recalled, Seeks, Task}
use Rattle.bw_model.specs.declared.step.Step.{Step}
use Rattle.bw_model.specs.declared.step.Step.TheVariants.{Slot, Row}
use Rattle.bw_model.specs.declared.step.Answer.TheVariants.{Number, Content}
use Rattle.traces.specs.discipline.Knowledge.{Empty, Knowledge, learn}
use Rattle.round_model.specs.Descents.{wanted_at, WayState, Root, Page}
use Rattle.round_model.specs.ReadRounds as read
use Rattle.round_model.specs.WriteRounds as write
use Rattle.round_model.specs.Visits as page
use Rattle.change_machine.specs.Spares.{Spares}
use Rattle.change_machine.proofs.Learning.{empty_page}

-- the step reads a slot, or a row
abbrev pub IsReading : Step Record → Type 0
IsReading s = ((p : ℕ) × (s ≡ Slot p)) ⊎ ((q : ℕ) × (s ≡ Row q))

of_visit : (pid : ℕ) (state : page.VisitState) → IsReading (page.wanted_at pid state)
of_visit pid page.Slot = inl (pid, refl)
of_visit pid (page.Row head row) = inr (row, refl)

pub reader_reads : (round : read.ReadRound) (k : Knowledge) (r : Recalled) → read.Shows round k r → IsReading (read.wanted_step round)
reader_reads round k r shows = go round.state shows
  where
    go : (state : WayState) → read.ShowsState round.limits round.key round.goal round.leg k r state → IsReading (wanted_at state)
    go Root h = inl (0, refl)
    go (Page visit) h = of_visit visit.pid visit.state

pub writer_reads : (round : write.WriteRound) (k : Knowledge) (r : Recalled) → write.Shows round k r → IsReading (write.wanted_step round)
writer_reads round k r shows = go round.state shows
  where
    go : (state : WayState) → write.ShowsState round k r state → IsReading (wanted_at state)
    go Root h = inl (0, refl)
    go (Page visit) h = of_visit visit.pid visit.state

-- the slot of another page was read
other_unread : (p n q : ℕ) (heads : ℕ → Option ℕ) → (q ≡ p → ⊥) → heads q ≡ None → replaced_at p (Some n) heads q ≡ None
other_unread p n q heads ne e = go (q == p) refl
  where
    go : (t : Bool) → (q == p) ≡ t → cond t (Some n) (heads q) ≡ None
    go true i = absurd (ne (eqb-true q p i))
    go false i = e

if_some : {P Q : ℕ → Type 0} (o : Option ℕ) → ((q : ℕ) → o ≡ Some q → P q → Q q) → IfSome o P → IfSome o Q
if_some None f h = h
if_some (Some q) f h = f q refl h

module _ (task : Task) (spares : Spares) (k : Knowledge) (s : Seeks task spares k) where
  some_page : (o : Option ℕ) → spares.pid ≡ o → (q : ℕ) → o ≡ Some q → k.own.pages q ≡ Empty
  some_page o is q e =
      let page = rw (is ∙ e) at s.spare.rest.are.page in
      empty_page (k.own.pages q) page.1 (λ row. s.spare.rest.unset q row)

  unread_still : (p n : ℕ) → (k.own.pages p ≡ Empty → ⊥) → IfSome spares.pid (λ q. replaced_at p (Some n) k.read.heads q ≡ None)
  unread_still p n foreign = if_some spares.pid (λ q e h. other_unread p n q k.read.heads (λ i. foreign (rw (← i) (some_page spares.pid refl q e))) h) s.unread

  slot_still : (limits : Limits) (p : ℕ) (told : Answer Record) → Fits limits k (Slot p) told → Seeks task spares (learn k (Slot p) told)
  slot_still limits zero (Number n) fits = record
      { inside = s.inside; spare = record { room = s.spare.room; rest = s.spare.rest }; unread = s.unread; asked = record { going = s.asked.going; unlinked = s.asked.unlinked } }
  slot_still limits (suc p) (Number zero) fits = s
  slot_still limits (suc p) (Number (suc n)) fits =
      record {
        inside = s.inside;
        spare = record { room = s.spare.room; rest = s.spare.rest };
        unread = unread_still (suc p) (suc n) fits.3;
        asked = record
            { going = s.asked.going; unlinked = s.asked.unlinked };
      }
  slot_still limits other others fits = absurd fits

  row_still : (limits : Limits) (q : ℕ) (told : Answer Record) → Fits limits k (Row q) told → Seeks task spares (learn k (Row q) told)
  row_still limits q (Content w) fits = record
      { inside = s.inside; spare = record { room = s.spare.room; rest = s.spare.rest }; unread = s.unread; asked = record { going = s.asked.going; unlinked = s.asked.unlinked } }
  row_still limits q other fits = absurd fits

  pub seeks_still : (limits : Limits) (asked : Step Record) (told : Answer Record) → IsReading asked → Fits limits k asked told → Seeks task spares (learn k asked told)
  seeks_still limits asked told reads fits = elim reads [
    | inl slot ↦ rw slot.1 (slot_still limits slot.0 told (rw slot.1 at fits))
    | inr row ↦ rw row.1 (row_still limits row.0 told (rw row.1 at fits))
  ]
