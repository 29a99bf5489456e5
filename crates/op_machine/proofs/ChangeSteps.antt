-- What an operation makes of an answer in a change.
use Rattle.op_machine.proofs.Words.{◌≡◌, ◌∙◌, false, inl, inr, Some, None, true, refl, ap, is_writer, Answer, Record, Knowledge, Recalled, Spares, OpPlaces, StepsInRound, Task, state_of}
use Rattle.change_machine.specs.Changes.{EndsByDeciding}
use Rattle.change_machine.specs.declared.change.End.{End}
use Rattle.change_machine.specs.declared.change.End.TheVariants.{Won, Lost, Full}
use Rattle.op_machine.specs.declared.places.StateKind.{StateKind}
use Rattle.op_machine.specs.declared.places.StateKind.TheVariants.{Change}
use Rattle.op_machine.specs.machine.Outcomes.{is_changing}
use Rattle.op_machine.specs.machine.RoundSteps.{AfterChanging}
use Rattle.op_machine.specs.machine.Shows.{ShowsState}
use Rattle.op_machine.specs.machine.States.{State}

pub is_change : (places : OpPlaces) → is_changing (state_of places) ≡ true → places.stand ≡ Change
is_change places e = by_stand places.stand refl
  where
    by_stand : (stand : StateKind) → places.stand ≡ stand → places.stand ≡ Change
    by_stand Change is = is
    by_stand stand is = absurd (let f : is_changing (state_of places) ≡ false = rw is refl in cc)

-- a change is a writer's
pub writes_change : (places : OpPlaces) (task : Task) → places.stand ≡ Change → (spares : Spares) (k : Knowledge) (r : Recalled)
    → ShowsState task spares k r (state_of places) → is_writer task.command ≡ true
writes_change places task is spares k r shows = (rw is at shows).writer

module _ (old new : OpPlaces) (told : Answer Record) (task : Task) (is : old.stand ≡ Change) where
  pub change_goes_on : new ≡ record old { change = new.change } → new.change.plan ≡ old.change.plan → EndsByDeciding old.change.state new.change.state None
      → StepsInRound task (state_of old) told (state_of new)
  change_goes_on only plan decides =
      let there : new.stand ≡ Change = ap (λ (p : OpPlaces). p.stand) only ∙ is in
      rw (is, there) (record { goes = inl (new.change, new.then, refl, plan, decides.0, decides.1) })

  pub change_ends : (end : End) (to : State) → EndsByDeciding old.change.state new.change.state (Some end) → AfterChanging end to → StepsInRound task (state_of old) told to
  change_ends Won to decides after = rw is (record { goes = inr (elim after [ inl leaving ↦ inl leaving | inr anew ↦ inr (decides, anew) ]) })
  change_ends Lost to decides after = rw is (record { goes = inr (elim after [ inl leaving ↦ inl leaving | inr anew ↦ inr (decides, anew) ]) })
  change_ends (Full kind) to decides after = rw is (record { goes = inr (inl after) })
