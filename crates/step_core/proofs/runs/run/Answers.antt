use Rattle.std.proofs.Common.{◌++◌, ◌∙◌, ap, map}
use Rattle.traces.specs.trace.Trace.{turn_of}
use Rattle.step_core.proofs.Stopping.{adds_entries, orderly, stops, whole}
use Rattle.step_core.proofs.runs.run.Goals as goal

pub returns-in-Ok-taken-clause-turns : goal.returns-in-Ok-taken-clause-turns
returns-in-Ok-taken-clause-turns g c =
    let adds = adds_entries c.in-Ok.core c.take_turns-taken.new.self c.args.turns.now c.in-Ok-taken.ensures.ok in
    rw c.into_trace.ensures (adds.0 ∙ ap (λ es. map turn_of es ++ c.args.turns.now) c.in-Ok.ensures.entries)

pub returns-in-Ok-taken-clause-linearized : goal.returns-in-Ok-taken-clause-linearized
returns-in-Ok-taken-clause-linearized g c =
    let adds = adds_entries c.in-Ok.core c.take_turns-taken.new.self c.args.turns.now c.in-Ok-taken.ensures.ok in
    rw c.into_trace.ensures
    (whole _ _ c.take_turns-taken.new.self (adds.0 ∙ ap (λ es. map turn_of es ++ c.args.turns.now) c.in-Ok.ensures.entries) (adds.1 ∙ c.in-Ok.ensures.limits) c.take_turns-taken.ensures.linearized)

pub returns-in-Ok-taken-clause-orderly : goal.returns-in-Ok-taken-clause-orderly
returns-in-Ok-taken-clause-orderly g c =
    let adds = adds_entries c.in-Ok.core c.take_turns-taken.new.self c.args.turns.now c.in-Ok-taken.ensures.ok in
    rw c.into_trace.ensures (orderly _ c.take_turns-taken.new.self (adds.1 ∙ c.in-Ok.ensures.limits) c.take_turns-taken.ensures.orderly)

pub returns-in-Err-taken-clause-err : goal.returns-in-Err-taken-clause-err
returns-in-Err-taken-clause-err g c =
    stops _ _ c.in-Ok.core c.take_turns-taken.new.self c.in-Err-taken.error c.in-Ok.ensures.entries c.in-Ok.ensures.limits c.in-Err-taken.ensures.err
    c.take_turns-taken.ensures.disciplined c.take_turns-taken.ensures.linearized c.take_turns-taken.ensures.orderly
