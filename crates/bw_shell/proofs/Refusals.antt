-- Why a turn is refused, by the core and by the transcript.
use Rattle.std.proofs.Common.{◌≡◌, ℕ, length, refl, sym, ap, ◌∙◌, inl, inr, Option, Some, None, Result, Err, Bool, true, false, cond, nat_lt, is_some, option_map}
use Rattle.traces.specs.declared.trace.Turn.{Turn}
use Rattle.traces.specs.declared.trace.Turn.TheVariants.{Begin, Step}
use Rattle.traces.specs.trace.Trace.{command_of}
use Rattle.bw_model.specs.declared.command.Command.{Command}
use Rattle.step_core.specs.Turns.{Core}
use Rattle.step_core.specs.Turns.{refusal_of as core_refusal_of, refused_by}
use Rattle.step_core.specs.declared.event.RunError.{RunError}
use Rattle.step_core.specs.declared.event.RunError.TheVariants.{Memory}
use Rattle.step_core.specs.declared.event.Event.{Event}
use Rattle.bw_shell.specs.declared.refusal.Refusal.TheVariants.{NoActor, Unfinished, NoOperation}
use Rattle.bw_shell.specs.Refusal.{refusal_by}
use Rattle.bw_shell.specs.Turns.{trace_of, refusal_in, Refuses}

begin_is : (n actor : ℕ) (command : Command) (b c : Bool) → cond b (cond c (Some Unfinished) None) (Some NoActor) ≡ option_map refusal_by (refused_by n (Begin actor command) (cond b (Some c) None))
begin_is n actor command true true = refl
begin_is n actor command true false = refl
begin_is n actor command false c = refl

step_is : (n actor : ℕ) (b c : Bool) → cond b (cond c None (Some NoOperation)) (Some NoActor) ≡ option_map refusal_by (refused_by n (Step actor) (cond b (Some c) None))
step_is n actor true true = refl
step_is n actor true false = refl
step_is n actor false c = refl

-- both look for the same
pub refusal_is : (core : Core) (turn : Turn) → refusal_in (trace_of core) turn ≡ option_map refusal_by (core_refusal_of core turn)
refusal_is core (Begin actor command) = begin_is (length core.entries) actor command (nat_lt actor core.limits.actors) (is_some (command_of core.entries actor))
refusal_is core (Step actor) = step_is (length core.entries) actor (nat_lt actor core.limits.actors) (is_some (command_of core.entries actor))

pub refused_turn : (core : Core) (turn : Turn) (error : RunError)
    → ((e : RunError) → core_refusal_of core turn ≡ Some e → (let found : Result Event RunError = Err error in let wanted : Result Event RunError = Err e in found ≡ wanted))
    → (core_refusal_of core turn ≡ None → error ≡ Memory (length core.entries))
    → Refuses (trace_of core) turn (refusal_by error)
refused_turn core turn error refused memory = at (core_refusal_of core turn) refl
  where
    err_is : (e : RunError) → (let found : Result Event RunError = Err error in let wanted : Result Event RunError = Err e in found ≡ wanted) → error ≡ e
    err_is e h = cc h

    at : (o : Option RunError) → core_refusal_of core turn ≡ o → Refuses (trace_of core) turn (refusal_by error)
    at None is = inr (refusal_is core turn ∙ ap (option_map refusal_by) is, ap refusal_by (memory is))
    at (Some e) is = inl (refusal_is core turn ∙ ap (option_map refusal_by) is ∙ ap (λ x. Some (refusal_by x)) (sym (err_is e (refused e is))))
