-- What one turn of the core told, and what it comes to.
use Rattle.std.proofs.Common.{◌≡◌, ◌<◌, ℕ, length, refl, sym, ap, subst, ◌∙◌, Option, Some, None, Result, Ok, Err, option_map}
use Rattle.std.specs.Prelude.{IfErr, IfOk, OnErr}
use Rattle.bw_model.specs.declared.step.Link.{Link}
use Rattle.traces.specs.declared.trace.Turn.TheVariants.{Step}
use Rattle.step_core.specs.Turns.{AddsTurn, Core, WantsMemory}
use Rattle.step_core.specs.Turns.{refusal_of as core_refusal_of}
use Rattle.step_core.specs.declared.event.RunError.{RunError}
use Rattle.step_core.specs.declared.event.RunError.TheVariants.{Memory}
use Rattle.step_core.specs.declared.event.Event.{Event}
use Rattle.bw_shell.specs.declared.turns.Progress.{Progress}
use Rattle.bw_shell.specs.declared.turns.Progress.TheVariants.{GoesOn, Linked, Done}
use Rattle.bw_shell.specs.declared.refusal.Refusal.{Refusal}
use Rattle.bw_shell.specs.Refusal.{refusal_by}
use Rattle.bw_shell.specs.Transcript.{IsUnderWay, StepTold, StepsOn, ToldAs, TurnsTold}
use Rattle.bw_shell.specs.Turns.{Refuses, TakesTurn, Trace, trace_of}
use Rattle.bw_shell.proofs.Refusals.{refusal_is, refused_turn}

-- what a step of the core told
abbrev pub TurnTold : Trace → ℕ → Result Event RunError → Trace → Type 0
TurnTold before actor (Ok event) after = TakesTurn before (Step actor) event after
TurnTold before actor (Err error) after = Refuses before (Step actor) (refusal_by error) × (after ≡ before)

-- a step that was taken, and that no refusal kept
pub stepped : (old new : Core) (actor : ℕ) (event : Event) → core_refusal_of old (Step actor) ≡ None → AddsTurn old (Step actor) event new → TakesTurn (trace_of old) (Step actor) event (trace_of new)
stepped old new actor event free adds = record {
  free = refusal_is old (Step actor) ∙ ap (option_map refusal_by) free;
  entry = adds.added;
  of_turn = adds.of_turn;
  event_of = adds.event_of;
  adds = adds.entries;
  limits = adds.same_limits;
}

pub turn_told : (old new : Core) (actor : ℕ) (told : Result Event RunError) → ((e : RunError) → core_refusal_of old (Step actor) ≡ Some e → told ≡ Err e)
    → (core_refusal_of old (Step actor) ≡ None → IfErr told (λ error. (error ≡ Memory (length old.entries)) × WantsMemory old (Step actor)))
    → IfOk told (λ event. AddsTurn old (Step actor) event new) → OnErr told (new ≡ old) → TurnTold (trace_of old) actor told (trace_of new)
turn_told old new actor (Ok event) refused memory ok err = stepped old new actor event (none (core_refusal_of old (Step actor)) refl) ok
  where
    none : (o : Option RunError) → core_refusal_of old (Step actor) ≡ o → core_refusal_of old (Step actor) ≡ None
    none None is = is
    none (Some e) is = let never = refused e is in cc never
turn_told old new actor (Err error) refused memory ok err = (refused_turn old (Step actor) error refused (λ h. (memory h).0), ap trace_of err)

-- one step, and what it comes to
pub step_told : (until : Option Link) (before : Trace) (actor : ℕ) (told : Result Event RunError) (after : Trace) (result : Result Progress Refusal)
    → TurnTold before actor told after → ToldAs until told result → StepTold until before actor result after
step_told until before actor (Ok event) after (Ok progress) took comes = (event, took, comes)
step_told until before actor (Ok event) after (Err refusal) took comes = absurd comes
step_told until before actor (Err error) after (Ok progress) took comes = absurd comes
step_told until before actor (Err error) after (Err refusal) took comes = (subst (Refuses before (Step actor)) (sym comes) took.0, took.1)

-- turns that went on, and one that stops them
pub steps_told : (until : Option Link) (before : Trace) (actor n limit : ℕ) (mid : Trace) (told : Result Event RunError) (after : Trace) (result : Result Progress Refusal)
    → StepsOn until before actor n mid → n < limit
    → TurnTold mid actor told after → (IsUnderWay until told → ⊥) → ToldAs until told result → TurnsTold until before actor limit result after
steps_told until before actor n limit mid (Ok event) after (Ok GoesOn) on lt took stops comes = absurd (stops comes)
steps_told until before actor n limit mid (Ok event) after (Ok Linked) on lt took stops comes = (n, lt, mid, on, (event, took, comes))
steps_told until before actor n limit mid (Ok event) after (Ok (Done reply)) on lt took stops comes = (n, lt, mid, on, (event, took, comes))
steps_told until before actor n limit mid (Ok event) after (Err refusal) on lt took stops comes = absurd comes
steps_told until before actor n limit mid (Err error) after (Ok progress) on lt took stops comes = absurd comes
steps_told until before actor n limit mid (Err error) after (Err refusal) on lt took stops comes =
    (n, lt, subst (StepsOn until before actor n) (sym took.1) on, subst (λ (t : Trace). Refuses t (Step actor) refusal) (sym took.1) (subst (Refuses mid (Step actor)) (sym comes) took.0))

-- a turn that goes on
pub goes_told : (until : Option Link) (before : Trace) (actor : ℕ) (told : Result Event RunError) (after : Trace) → TurnTold before actor told after
    → IsUnderWay until told → StepTold until before actor (Ok GoesOn) after
goes_told until before actor (Ok event) after took going = (event, took, going)
goes_told until before actor (Err error) after took going = absurd going
