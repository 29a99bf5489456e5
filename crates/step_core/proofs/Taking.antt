-- One step of an actor: what is asked of it, and which step keeps pairs.
use Rattle.std.proofs.Common.{◌≡◌, ℕ, List, Bool, Option, Some, None, cond, is_some, true, false, ◌⊎◌, inl, inr, sym, ap, ◌∙◌, subst, refl}
use Rattle.std.specs.Str.{bytes_eq}
use Rattle.std.proofs.lemmas.Bool.{cases_eq}
use Rattle.std.proofs.lemmas.Option.{same_Some}
use Rattle.round_model.specs.Machines.{AreThere}
use Rattle.op_machine.specs.machine.UnderWay.{UnderWay}
use Rattle.op_machine.specs.machine.Actors.{Actor, ActsOn, IsActor, IsActorShown, IsActorWith, IsGoing, IsToldActor, IsToldActorThere, command_at, running_command, wanted_by}
use Rattle.bw_model.specs.declared.command.Command.{Command}
use Rattle.bw_model.specs.declared.command.Command.TheVariants.{Get, Insert, Upsert, Delete, DeleteIf, Swap, Add, Page, Back, Tidy}
use Rattle.bw_model.specs.declared.command.Reply.{Reply}
use Rattle.bw_model.specs.declared.command.Reply.TheVariants as kind
use Rattle.tree_limits.specs.declared.limits.Limits.{Limits}
use Rattle.bw_model.specs.declared.step.Answer.{Answer}
use Rattle.bw_model.specs.declared.step.Answer.TheVariants.{Content}
use Rattle.bw_model.specs.declared.step.Step.{Step as StepOf}
use Rattle.bw_model.specs.declared.step.Step.TheVariants as wants
use Rattle.bw_model.specs.declared.step.Step.TheVariants.{Announce, Exchange, PidBits, Place, Retire, ReusePids, ReuseRows, Row, RowBits, Slot, TakePid, TakeRow}
use Rattle.bw_model.specs.Numbers.{is_number}
use Rattle.bw_model.specs.Replies.{command_key, reply_of}
use Rattle.deltas.specs.declared.record.Record.{Record}
use Rattle.deltas.specs.Memory.{Memory, replaced_at}
use Rattle.deltas.proofs.Replaced.{replaced_same, replaced_other}
use Rattle.traces.specs.discipline.Discipline.{MayReply, chain_value}
use Rattle.traces.specs.trace.Within.{IsWithin}
use Rattle.core_memory.specs.Looks.{StandsIn}
use Rattle.core_memory.specs.Replies.{ShowsPairs}
use Rattle.core_memory.specs.Shared.{PlacesSpellable}
use Rattle.traces.specs.discipline.Knowledge.{Knowledge, learn}
use Rattle.traces.specs.discipline.Recalled.{Recalled}
use Rattle.traces.specs.trace.Steps.{IsAnswer}
use Rattle.change_machine.specs.Spares.{Spares}
use Rattle.change_machine.specs.declared.taking.Kind.{Kind}
use Rattle.op_parts.specs.Hands.{Hand}
use Rattle.op_machine.specs.machine.Shows.{ShowsState}
use Rattle.op_machine.specs.machine.Tasks.{Task}
use Rattle.op_machine.specs.machine.States.{State, Begun, Epoch, Enter, Read, Write, Change, Leave}
use Rattle.step_core.specs.Actors.{IsPageEnd, IsReady, NeedsRoom}

-- a reply that a test decides between two without pairs
chosen_pairs : (b : Bool) (one two reply : Reply) → cond b (Some one) (Some two) ≡ Some reply → ShowsPairs reply → (ShowsPairs one → ⊥) → (ShowsPairs two → ⊥) → ⊥
chosen_pairs true one two reply e h first second = first (subst ShowsPairs (sym (same_Some one reply e)) h)
chosen_pairs false one two reply e h first second = second (subst ShowsPairs (sym (same_Some two reply e)) h)

-- no reply by a key's value is a page
no_pairs : (c : Command) (o : Option (List ℕ)) (reply : Reply) → reply_of c o ≡ Some reply → ShowsPairs reply → ⊥
no_pairs (Get key) None reply e h = subst ShowsPairs (sym (same_Some kind.None reply e)) h
no_pairs (Get key) (Some old) reply e h = subst ShowsPairs (sym (same_Some (kind.Value old) reply e)) h
no_pairs (Insert key value) None reply e h = subst ShowsPairs (sym (same_Some kind.Inserted reply e)) h
no_pairs (Insert key value) (Some old) reply e h = subst ShowsPairs (sym (same_Some (kind.Exists old) reply e)) h
no_pairs (Upsert key value) None reply e h = subst ShowsPairs (sym (same_Some kind.Set reply e)) h
no_pairs (Upsert key value) (Some old) reply e h = subst ShowsPairs (sym (same_Some (kind.Replaced old) reply e)) h
no_pairs (Delete key) None reply e h = subst ShowsPairs (sym (same_Some kind.Absent reply e)) h
no_pairs (Delete key) (Some old) reply e h = subst ShowsPairs (sym (same_Some (kind.Deleted old) reply e)) h
no_pairs (DeleteIf key expected) None reply e h = subst ShowsPairs (sym (same_Some kind.Absent reply e)) h
no_pairs (DeleteIf key expected) (Some old) reply e h =
    chosen_pairs (bytes_eq old expected) (kind.Deleted old) (kind.Differs old) reply e h (λ shows. shows) (λ shows. shows)
no_pairs (Swap key expected value) None reply e h = subst ShowsPairs (sym (same_Some kind.Absent reply e)) h
no_pairs (Swap key expected value) (Some old) reply e h = chosen_pairs (bytes_eq old expected) kind.Swapped (kind.Differs old) reply e h (λ shows. shows) (λ shows. shows)
no_pairs (Add key number) None reply e h = subst ShowsPairs (sym (same_Some kind.Set reply e)) h
no_pairs (Add key number) (Some old) reply e h =
    chosen_pairs (is_number old) (kind.Replaced old) (kind.Differs old) reply e h (λ shows. shows) (λ shows. shows)
no_pairs (Page from) o reply e h = cc
no_pairs (Back upto) o reply e h = cc
no_pairs (Tidy key) o reply e h = cc

-- the command asks for a page from the key on, or up to it
abbrev AsksPage : Option Command → List ℕ → Type 0
AsksPage command bound = (command ≡ Some (Page bound)) ⊎ (command ≡ Some (Back bound))

-- a reply with pairs is that of a page
asks_page : (limits : Limits) (actor : ℕ) (k : Knowledge) (reply : Reply) → MayReply limits actor k reply → ShowsPairs reply
    → (bound : List ℕ) × AsksPage k.asked.command bound
asks_page limits actor k reply may shows = elim may.justified [
  | inl value ↦ absurd (no_pairs may.command (chain_value value.chain (command_key may.command)) reply value.is shows)
  | inr (inl page) ↦ (page.from, inl (may.going ∙ ap Some page.asks))
  | inr (inr (inl page)) ↦ (page.upto, inr (may.going ∙ ap Some page.asks))
  | inr (inr (inr (inl tidy))) ↦ absurd (subst ShowsPairs tidy.is shows)
  | inr (inr (inr (inr full))) ↦ absurd (subst ShowsPairs full.is shows)
]

-- an operation shows what its actor was asked
asked_is : (task : Task) (spares : Spares) (k : Knowledge) (r : Recalled) (state : State) → ShowsState task spares k r state → k.asked.command ≡ Some task.command
asked_is task spares k r (Enter epoch) h = h.0.asked.going
asked_is task spares k r (Read round) h = h.seeks.asked.going
asked_is task spares k r (Write round) h = h.seeks.asked.going
asked_is task spares k r (Leave reply lacks) h = h.0.going
asked_is task spares k r other h = h.asked.going

-- an actor with an operation shows that command, and wants a step
command_shown : (limits : Limits) (number : ℕ) (k : Knowledge) (r : Recalled) (hand : Hand) (running : Option UnderWay) → is_some (command_at running) ≡ true
    → IsActorWith limits number k r hand running → k.asked.command ≡ command_at running
command_shown limits number k r hand None some at = cc
command_shown limits number k r hand (Some running) some at = asked_is running.op.task hand.spares k r running.op.state at.goes.shows.stands

module _ (limits : Limits) (number : ℕ) (k : Knowledge) (r : Recalled) (memory : Memory) (step : StepOf Record) (answer : Answer Record) where
  -- the answer of the memory fits
  going_with : (hand : Hand) (o : Option UnderWay) (lacks : Option Kind) → is_some (command_at o) ≡ true
      → IsReady limits number k r memory (record { hand = hand; running = o; lacks = lacks }) → wanted_by o ≡ Some step → IsAnswer memory step answer
      → (going : IsGoing limits number k r (record { hand = hand; running = o; lacks = lacks }) answer) × (going.running.wanted ≡ step)
  going_with hand None lacks some ready is answered = cc
  going_with hand (Some running) lacks some ready is answered =
      let same : running.wanted ≡ step = same_Some running.wanted step is in
      (record { running = running; is = refl; shows = ready.0; fits = ready.1 answer (subst (λ s. IsAnswer memory s answer) (sym same) answered) }, same)

  pub going : (at : Actor) → is_some (running_command at) ≡ true → IsReady limits number k r memory at → wanted_by at.running ≡ Some step
      → IsAnswer memory step answer → (going : IsGoing limits number k r at answer) × (going.running.wanted ≡ step)
  going at some ready is answered = going_with at.hand at.running at.lacks some ready is answered

  -- the actor is told that answer
  pub told_by : (at : Actor) (told : Answer Record) → is_some (running_command at) ≡ true → IsReady limits number k r memory at
      → wanted_by at.running ≡ Some step → IsAnswer memory step answer → told ≡ answer → IsToldActor at told
  told_by at told some ready is answered same = record { limits = limits; actor = number; k = k; r = r; going = subst (IsGoing limits number k r at) (sym same) (going at some ready is answered).0 }

  -- it goes on by that answer
  pub goes_by : (at new : Actor) (told : Answer Record) (reply : Option Reply) → is_some (running_command at) ≡ true → IsReady limits number k r memory at
      → wanted_by at.running ≡ Some step → IsAnswer memory step answer → told ≡ answer
      → ((going : IsGoing limits number k r at told) → ActsOn limits number k r at going.running.wanted told reply new) → ActsOn limits number k r at step answer reply new
  goes_by at new told reply some ready is answered same goes =
      let on = going at some ready is answered in
      let from : ActsOn limits number k r at on.0.running.wanted answer reply new = subst
      (λ a. (g : IsGoing limits number k r at a) → ActsOn limits number k r at g.running.wanted a reply new) same goes on.0 in
      subst (λ asked. ActsOn limits number k r at asked answer reply new) on.1 from

  -- where the reply has pairs, the step ends a page
  pub needs_room : (at new : Actor) (reply : Reply) → is_some (running_command at) ≡ true → IsActor limits number k r at → wanted_by at.running ≡ Some step
      → ActsOn limits number k r at step answer (Some reply) new → ShowsPairs reply → NeedsRoom at
  needs_room at new reply some shows is goes pairs =
      let page = asks_page limits number k reply goes.allowed.replied.1 pairs in
      let asked = command_shown limits number k r at.hand at.running some shows in
      subst (IsPageEnd (running_command at)) (sym is)
      (record { bound = page.0; asks = subst (λ (command : Option Command). AsksPage command page.0) asked page.1; leaves = goes.allowed.replied.0 })

-- the actor is told what the memory answers, whatever it knows
pub told_of : (memory : Memory) (step : StepOf Record) (answer : Answer Record) (at : Actor) (told : Answer Record) → is_some (running_command at) ≡ true
    → (limits : Limits) × (number : ℕ) × (k : Knowledge) × (r : Recalled) × IsReady limits number k r memory at
    → wanted_by at.running ≡ Some step → IsAnswer memory step answer → told ≡ answer → IsToldActor at told
told_of memory step answer at told some (limits, number, k, r, ready) is answered same = told_by limits number k r memory step answer at told some ready is answered same

-- a row can spell what a step within the limits places
spellable_within : (limits : Limits) (step : StepOf Record) → IsWithin limits step → PlacesSpellable step
spellable_within limits (Place row content) within = within.2
spellable_within limits step within = tt

spellable_with : (limits : Limits) (number : ℕ) (k : Knowledge) (r : Recalled) (hand : Hand) (running : Option UnderWay)
    → IsActorWith limits number k r hand running → (step : StepOf Record) → wanted_by running ≡ Some step → PlacesSpellable step
spellable_with limits number k r hand None at step is = cc
spellable_with limits number k r hand (Some running) at step is = subst PlacesSpellable (same_Some running.wanted step is) (spellable_within running.op.task.limits running.wanted at.goes.may.within)

-- a row can spell what an actor's operation wants to place
pub spellable : (at : Actor) → IsActorShown at → (step : StepOf Record) → wanted_by at.running ≡ Some step → PlacesSpellable step
spellable at (limits, number, k, r, shows) step is = spellable_with limits number k r at.hand at.running shows step is

-- a read alone is answered by a record
pub reads : (memory : Memory) (step : StepOf Record) (content : Record) → IsAnswer memory step (Content content) → (row : ℕ) × (step ≡ Row row)
reads memory (Row row) content answered = (row, refl)
reads memory other content others = cc

-- the record that is read stands in the row
pub read_stands : (memory : Memory) (step : StepOf Record) (row : ℕ) (content : Record) → step ≡ Row row → IsAnswer memory step (Content content) → memory.rows row ≡ Some content
read_stands memory step row content reads answered =
    let (found, stands, same) : IsAnswer memory (Row row) (Content content) = subst (λ s. IsAnswer memory s (Content content)) reads answered in
    stands ∙ ap Some (let back : found ≡ content = cc in back)

-- once a record is read, it is among those that stand
there_read : (memory : Memory) (k : Knowledge) (row : ℕ) (content : Record) → memory.rows row ≡ Some content → AreThere (StandsIn memory) k
    → AreThere (StandsIn memory) (learn k (Row row) (Content content))
there_read memory k row content stands there other found seen = elim (cases_eq other row) [
  | inl same ↦ ap memory.rows same ∙ stands ∙ sym (ap (replaced_at row (Some content) k.read.seen) same ∙ replaced_same row (Some content) k.read.seen) ∙ seen
  | inr apart ↦ there other found (sym (replaced_other row (Some content) k.read.seen other apart) ∙ seen)
]

-- an actor that wants to read a row is told the record that stands there, beside those that it has read
pub told_there : (memory : Memory) (at : Actor) (row : ℕ) (content : Record) → is_some (running_command at) ≡ true
    → (limits : Limits) × (number : ℕ) × (k : Knowledge) × (r : Recalled) × IsReady limits number k r memory at
    → wanted_by at.running ≡ Some (Row row) → memory.rows row ≡ Some content → IsToldActorThere (StandsIn memory) at (Content content)
told_there memory at row content some (limits, number, k, r, ready) is stands =
    let on = going limits number k r memory (Row row) (Content content) at some ready is (content, stands, refl) in
    record {
      limits = limits;
      actor = number;
      k = k;
      r = r;
      going = on.0;
      there = subst (λ s. AreThere (StandsIn memory) (learn k s (Content content)))
          (sym on.1) (there_read memory k row content stands ready.2);
    }
