-- A change in the first state of its plan has begun.
use Rattle.change_machine.proofs.Words.{◌≡◌, ◌≤◌, ℕ, ap, ◌∙◌, sym, subst, refl, Limits, Record, Plan, Install, Change, IsSoundChange, IsTarget, first_state, HaveRoom, Spares, State}
use Rattle.change_machine.specs.Begun.{HasBegun}
use Rattle.change_machine.specs.Bounded.{Recalls, few_steps, steps_left}
use Rattle.change_machine.specs.Changes.{IsMade, IsMadeAt, has_decided}
use Rattle.change_machine.specs.declared.change.State.TheVariants.{Base, Place}
use Rattle.change_machine.proofs.Deciding.{first_open}
use Rattle.change_machine.proofs.Making.{bare, bare_at, shows_of_bare}
use Rattle.change_machine.proofs.Sound.{first_sound}
use Rattle.change_machine.proofs.Spending.{few_first, recalls_first}
use Rattle.change_machine.proofs.Taken.{shows_first}

-- by its limits, its plan and its state
is_bare : (change : Change) (limits : Limits) (plan : Plan) (state : State) → change.limits ≡ limits → change.plan ≡ plan → change.state ≡ state → bare_at limits plan state ≡ bare change
is_bare change limits plan state l p s = λ i. bare_at (sym l i) (sym p i) (sym s i)

pub begun : (change : Change) (limits : Limits) (plan : Plan) (spares : Spares) (near : ℕ) → change.limits ≡ limits → change.plan ≡ plan → change.state ≡ first_state limits plan spares near
    → IsMade change spares → HaveRoom limits spares → IsTarget limits plan → HasBegun limits plan spares change
begun change limits plan spares near l p s made room target =
    let is = is_bare change limits plan (first_state limits plan spares near) l p s in
    let first : IsSoundChange (bare_at limits plan (first_state limits plan spares near)) spares = record { room = room; state = first_sound limits plan spares near target } in
    let sound = rw is at first in
    record {
      limits = l;
      plan = p;
      shows = λ actor k may keeps rest. shows_of_bare actor change spares k (rw (← is) (shows_first actor limits k plan spares near may keeps rest.are rest.unset));
      sound = record { room = sound.room; state = sound.state };
      made = made;
      recalls = λ r head apart.
          let recalls = subst (λ change. Recalls change spares r) is (record { at = recalls_first limits r plan spares near head; apart = apart }) in
          record { at = recalls.at; apart = recalls.apart };
      few = λ after. subst (λ (change : Change). steps_left after change spares ≤ few_steps limits) is (few_first limits after plan spares near);
      first = ap has_decided s ∙ first_open limits plan spares near;
    }

-- what a plan has as it is, is made
pub made_there : (pid head : ℕ) (content made : Record) (spares : Spares) (state : State) → IsMadeAt (Install pid head content) made spares state
made_there pid head content made spares Base = refl
made_there pid head content made spares Place = refl
made_there pid head content made spares state = tt
