-- Where a writer's operation stands, and how it goes on there by what it makes of an answer.
use Rattle.progress.proofs.Words.{◌≡◌, ◌⊎◌, ℕ, Bool, true, false, Option, None, Some, refl, sym, ap, ◌∙◌, inl, inr, either, Limits, Answer, StepOf, Record, Knowledge, Recalled, is_leaving}
use Rattle.progress.proofs.Words.{State, Write, Change, Task, head_of, slot_of, Plan, May, Fits, WriteEnd, WriteRound, AtChange, InRound, StepsOn, WriterState, meets}
use Rattle.round_model.specs.WriteEnds as end
use Rattle.round_model.specs.WriteRounds.{wanted_step}
use Rattle.change_machine.specs.Changes.{CanDecide, Change as ChangeOf, has_decided, wanted_at}
use Rattle.change_machine.specs.Spares.{Spares}
use Rattle.change_machine.specs.declared.change.State.{State as StateOf}
use Rattle.change_machine.specs.declared.change.State.TheVariants as at
use Rattle.op_machine.specs.machine.GoesLeft.{first_write, write_left_of}
use Rattle.op_machine.specs.machine.RoundSteps as op
use Rattle.op_machine.specs.machine.RoundSteps.{StepsChanging, StepsWriting}
use Rattle.op_machine.specs.machine.Shows.{IsInChange}
use Rattle.op_parts.specs.declared.then.Then.{Then}
use Rattle.progress.specs.WritersAmong.{AfterRound, BeginsRound, HasDecided}
use Rattle.progress.proofs.meetings.Shapes.{calm, decides}

abbrev pub change_at : ChangeOf → WriterState
change_at now = AtChange (slot_of now.plan) (head_of now.plan) (has_decided now.state)

-- where an operation stands as a writer, in a round or at a change
abbrev pub IsStanding : State → WriterState → Type 0
IsStanding (Write round) writer = writer ≡ InRound round
IsStanding (Change now after) writer = writer ≡ change_at now
IsStanding other writer = ⊥

-- A writer goes on so, and there it stands, or it is to leave.
abbrev pub Turns : Knowledge → WriterState → StepOf Record → Answer Record → State → Type 0
Turns k old step answer new = (next : WriterState) × StepsOn k old step answer next × ((is_leaving new ≡ true) ⊎ IsStanding new next)

pub anew : (task : Task) → BeginsRound (InRound (first_write task))
anew task = record { round = first_write task; is = refl; seeks = refl; above = refl; aside = refl; first = refl }

stands_as : (new other : State) (writer : WriterState) → new ≡ other → IsStanding other writer → IsStanding new writer
stands_as new other writer e stands = rw e stands

-- at the change that is due
planned : (now : ChangeOf) (plan : Plan) (slot head : ℕ) → now.plan ≡ plan → has_decided now.state ≡ false → slot_of plan ≡ slot → head_of plan ≡ head → AtChange slot head false ≡ change_at now
planned now plan slot head same fresh slot_is head_is = rw (same, fresh, slot_is, head_is) refl

module _ (task : Task) (round : WriteRound) (k : Knowledge) (answer : Answer Record) (new : State) where
  -- what follows its end
  after_end : (next : WriteRound) (result : Option WriteEnd) → op.AfterWriting task next result new
      → (writer : WriterState) × AfterRound next result writer × ((is_leaving new ≡ true) ⊎ IsStanding new writer)
  after_end next None goes = (InRound next, refl, inr (stands_as new (Write next) (InRound next) goes refl))
  after_end next (Some end.Again) goes = (InRound (first_write task), anew task, inr (stands_as new (Write (first_write task)) (InRound (first_write task)) goes refl))
  after_end next (Some end.Done) goes = (InRound (first_write task), anew task, inr (stands_as new (Write (first_write task)) (InRound (first_write task)) goes refl))
  after_end next (Some (end.Removed removed)) goes =
      (InRound (write_left_of task.limits removed), (task.limits, refl), inr (stands_as new (Write (write_left_of task.limits removed)) (InRound (write_left_of task.limits removed)) goes refl))
  after_end next (Some (end.Due plan after)) goes = (
    AtChange (slot_of plan) (head_of plan) false,
    refl,
    inr (stands_as new (Change goes.0 goes.1) (AtChange (slot_of plan) (head_of plan) false) goes.2 (planned goes.0 plan (slot_of plan) (head_of plan) goes.3 goes.4 refl refl)),
  )
  after_end next (Some (end.Leaf parent leaf)) goes = elim goes [
    | inl leaving ↦ (InRound (first_write task), inl (anew task), inl leaving)
    | inr more ↦ elim more [
      | inl begins ↦ (InRound (first_write begins.0), inl (anew begins.0), inr (stands_as new (Write (first_write begins.0)) (InRound (first_write begins.0)) begins.1 refl))
      | inr due ↦
          let now : ChangeOf = due.1.0 in
          elim due.2 [
            | inl over ↦ (
              AtChange leaf.pid leaf.head false,
              inr (inl refl),
              inr (stands_as new (Change now due.1.1) (AtChange leaf.pid leaf.head false) due.1.2 (planned now due.0 leaf.pid leaf.head due.1.3 due.1.4 over.0 over.1)),
            )
            | inr over ↦ (
              AtChange over.0.pid over.0.head false,
              inr (inr (over.0, over.1, refl)),
              inr (stands_as new (Change now due.1.1) (AtChange over.0.pid over.0.head false) due.1.2 (planned now due.0 over.0.pid over.0.head due.1.3 due.1.4 over.2.0 over.2.1)),
            )
          ]
    ]
  ]

  pub turns_round : StepsWriting task round answer new → Turns k (InRound round) (wanted_step round) answer new
  turns_round steps =
      let follows = after_end steps.next steps.end steps.goes in (
        follows.0,
        record { wanted = refl; next = steps.next; end = steps.end; responds = steps.responds; goes = follows.1 },
        follows.2,
      )

is_link : (state : StateOf) → (state ≡ at.Link) ⊎ (state ≡ at.Link → ⊥)
is_link at.Link = inl refl
is_link state = inr (λ e. cc e)

module _ (limits : Limits) (task : Task) (spares : Spares) (k : Knowledge) (r : Recalled) (now : ChangeOf) (after : Then) (shows : IsInChange task spares k r now after) (answer : Answer Record)
    (fits : Fits limits k (wanted_at now.limits now.plan spares now.state) answer) (may : May task.actor k (wanted_at now.limits now.plan spares now.state)) (new : State) where
  abbrev step : StepOf Record
  step = wanted_at now.limits now.plan spares now.state

  abbrev slot : ℕ
  slot = slot_of now.plan

  abbrev head : ℕ
  head = head_of now.plan

  abbrev Takes : Type 0
  Takes = Turns k (change_at now) step answer new

  -- another plan's change that has decided as much
  same_plan : (next : ChangeOf) (taken : Bool) → next.plan ≡ now.plan → has_decided next.state ≡ taken → AtChange slot head taken ≡ change_at next
  same_plan next taken same is = rw (same, is) refl

  -- the exchange that decides
  at_link : now.state ≡ at.Link → StepsChanging now new → Takes
  at_link link steps =
      let fresh : has_decided now.state ≡ false = ap has_decided link in
      let decided : HasDecided k slot head (has_decided now.state) step answer = rw fresh (decides limits task spares k r now after shows answer link may) in
      elim steps.goes [
        | inl on ↦ (
          AtChange slot head true,
          record { goes = inr (decided, inr (slot, head, refl)) },
          inr (stands_as new (Change on.0 on.1) (AtChange slot head true) on.2 (same_plan on.0 true on.3 (on.5 (inl link)))),
        )
        | inr more ↦ elim more [
          | inl leaving ↦ (InRound (first_write task), record { goes = inr (decided, inl (anew task)) }, inl leaving)
          | inr begins ↦ (
            InRound (first_write begins.1.0),
            record { goes = inr (decided, inl (anew begins.1.0)) },
            inr (stands_as new (Write (first_write begins.1.0)) (InRound (first_write begins.1.0)) begins.1.1 refl),
          )
        ]
      ]

  elsewhere : (now.state ≡ at.Link → ⊥) → StepsChanging now new → Takes
  elsewhere other steps =
      let quiet : meets step answer ≡ false = calm limits task spares k r now after shows answer other fits may in
      elim steps.goes [
        | inl on ↦ (
          change_at now,
          record { goes = inl (quiet, refl) },
          inr (stands_as new (Change on.0 on.1) (change_at now) on.2 (same_plan on.0 (has_decided now.state) on.3 (as_before on.0 on.4 on.5))),
        )
        | inr more ↦ elim more [
          | inl leaving ↦ (change_at now, record { goes = inl (quiet, refl) }, inl leaving)
          | inr begins ↦ elim begins.0 [
            | inl link ↦ absurd (other link)
            | inr taken ↦ (
              InRound (first_write begins.1.0),
              record { goes = inr (rw taken quiet, inl (anew begins.1.0)) },
              inr (stands_as new (Write (first_write begins.1.0)) (InRound (first_write begins.1.0)) begins.1.1 refl),
            )
          ]
        ]
      ]
    where
      as_before : (next : ChangeOf) → (has_decided next.state ≡ true → CanDecide now.state) → (CanDecide now.state → has_decided next.state ≡ true) → has_decided next.state ≡ has_decided now.state
      as_before next comes goes = either (has_decided now.state)
          (λ taken. goes (inr taken) ∙ sym taken)
          (λ not_yet. either (has_decided next.state) (λ e. elim (comes e) [ inl link ↦ absurd (other link) | inr taken ↦ e ∙ sym taken ]) (λ e. e ∙ sym not_yet))

  pub turns_change : StepsChanging now new → Takes
  turns_change steps = elim (is_link now.state) [ inl link ↦ at_link link steps | inr other ↦ elsewhere other steps ]
