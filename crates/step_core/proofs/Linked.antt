-- An exchange that won has a link, and no other step has one.
use Rattle.std.proofs.Common.{◌≡◌, ◌<◌, ℕ, zero, suc, Some, None, Option, Bool, true, false, refl, sym, ap, subst, arith, eqb, ◌∙◌}
use Rattle.std.specs.Prelude.{is_some, IsTrue, if◌then◌else◌}
use Rattle.std.specs.Option.{option_map}
use Rattle.bw_model.specs.declared.command.Reply.{Reply}
use Rattle.bw_model.specs.declared.step.Answer.{Answer}
use Rattle.bw_model.specs.declared.step.Answer.TheVariants.{Start, Number, Content, Whether, Done}
use Rattle.bw_model.specs.declared.step.Link.TheVariants as link
use Rattle.bw_model.specs.declared.step.Step.{Step as StepOf}
use Rattle.bw_model.specs.declared.step.Step.TheVariants.{Exchange}
use Rattle.deltas.specs.declared.record.Record.{Record}
use Rattle.deltas.specs.Links.{record_link}
use Rattle.traces.specs.declared.trace.Entry.{Entry}
use Rattle.traces.specs.declared.trace.Entry.TheVariants as entry
use Rattle.traces.specs.trace.Trace.{memory_of}
use Rattle.step_core.specs.declared.event.Event.{Event}
use Rattle.linearization.specs.Links.{link_without}
use Rattle.traces.specs.trace.Steps.{IsAnswer, memory_after}
use Rattle.deltas.specs.Memory.{Memory}
use Rattle.step_core.specs.declared.event.Event.TheVariants.{Stepped}
use Rattle.step_core.proofs.Lawful.{Asks, HasHeads, is_placed}
use Rattle.step_core.specs.Turns.{Core, IsEventOf, is_won, link_told, step_event}
use Rattle.std.proofs.lemmas.Bool.{eqb-true}

positive : (n : ℕ) → eqb n 0 ≡ false → 0 < n
positive zero e = cc
positive (suc n) e = omega arith

some_at : {X Y : Type 0} (f : X → Y) (o : Option X) → IsTrue (is_some o) → is_some (option_map f o) ≡ true
some_at f None some = cc
some_at f (Some x) some = refl

-- An exchange that won has a link, and no other step has one.
linked : (memory : Memory) (step : StepOf Record) (answer : Answer Record) → HasHeads memory → Asks (is_placed memory) step → IsAnswer memory step answer
    → is_some (link_told memory step answer) ≡ is_won step answer
linked memory (Exchange slot old new) (Whether true) closed asks answered = go (eqb slot 0) refl (eqb old 0) refl (eqb new 0) refl
  where
    before : memory.slots slot ≡ old
    before = eqb-true (memory.slots slot) old (won (eqb (memory.slots slot) old) answered)
      where
        yes : Answer Record
        yes = Whether true

        won : (t : Bool) → yes ≡ Whether t → t ≡ true
        won t e = cc

    go : (s : Bool) → eqb slot 0 ≡ s → (o : Bool) → eqb old 0 ≡ o → (n : Bool) → eqb new 0 ≡ n
        → is_some (if s then Some link.Root else (if o then Some link.Ready else (if n then option_map link_without (memory.rows old) else option_map record_link (memory.rows new)))) ≡ true
    go true s o p n q = refl
    go false s true p n q = refl
    go false s false p true q =
        some_at link_without (memory.rows old)
        (subst (λ row. IsTrue (is_placed memory row)) before (closed slot (positive slot s) (subst (λ row. 0 < row) (sym before) (positive old p))))
    go false s false p false q = some_at record_link (memory.rows new) (asks (positive slot s) (positive old p) (positive new q))
linked memory (Exchange slot old new) (Whether false) closed asks answered = refl
linked memory other others closed asks answered = refl

-- the step doesn't change what its link is said by
told_after : (memory : Memory) (actor : ℕ) (step : StepOf Record) (answer : Answer Record) → link_told (memory_after actor step memory) step answer ≡ link_told memory step answer
told_after memory actor (Exchange slot old new) (Whether true) = refl
told_after memory actor other others = refl

pub event_is : (memory after : Memory) (actor : ℕ) (step : StepOf Record) (answer : Answer Record) (reply : Option Reply) (event : Event)
    → after ≡ memory_after actor step memory → HasHeads memory → Asks (is_placed memory) step
    → IsAnswer memory step answer → event ≡ step_event (link_told after step answer) reply → IsEventOf memory (entry.Step actor step answer reply) event
event_is memory after actor step answer None event left closed asks answered is =
    let same : link_told after step answer ≡ link_told memory step answer = ap (λ m. link_told m step answer) left ∙ told_after memory actor step answer in
    (is ∙ ap Stepped same, linked memory step answer closed asks answered)
event_is memory after actor step answer (Some reply) event left closed asks answered is = is

-- the same of equal cores
pub told_to : (core view : Core) (added : Entry) (event : Event) → core ≡ view → IsEventOf (memory_of core.limits core.entries) added event → IsEventOf (memory_of view.limits view.entries) added event
told_to core view added event is before = subst (λ v. IsEventOf (memory_of v.limits v.entries) added event) is before
