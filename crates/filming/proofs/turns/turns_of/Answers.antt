use Rattle.std.proofs.Common.{◌∷◌, ◌++◌, [], ap, map, sym, take, ◌∙◌}
use Rattle.traces.specs.trace.Trace.{turn_of}
use Rattle.filming.proofs.Filming.{map_next}
use Rattle.filming.proofs.turns.turns_of.Goals as goal

pub loop-place-preserved : goal.loop-place-preserved
loop-place-preserved c =
    c.in_ok-push-in-Some.ensures.items ∙ ap (λ turns. turns ++ c.turn_of.result ∷ []) c.loop-place.invariant
    ∙ ap (λ turn. map turn_of (take c.loop-place.place c.args.trace.now.entries.items) ++ turn ∷ []) c.turn_of.ensures
    ∙ sym (map_next turn_of c.args.trace.now.entries.items c.loop-place.place c.in-Some.entry (sym c.entry.ensures ∙ c.in-Some.is))
