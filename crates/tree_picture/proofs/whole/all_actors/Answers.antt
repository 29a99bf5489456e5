use Rattle.std.proofs.Common.{◌≡◌, ◌+◌, ◌++◌, ◌∷◌, [], ap, arith, length, subst, sym, ◌∙◌}
use Rattle.std.proofs.lemmas.List.{length-append}
use Rattle.deltas.specs.Memory.{Memory}
use Rattle.traces.specs.trace.Trace.{memory_of}
use Rattle.tree_picture.specs.Cells.{IsActorOf, actor_cells, cells_from}
use Rattle.tree_picture.proofs.Celling.{actors_more, cells_more}
use Rattle.tree_picture.proofs.Drawn.{cells_then}
use Rattle.tree_picture.proofs.whole.all_actors.Goals as goal

pub loop-number-preserved : goal.loop-number-preserved
loop-number-preserved c =
    let core = c.args.core.now in
    let before = c.loop-number.invariant in
    let at = c.in-Some.actor.now in
    let memory = memory_of core.limits core.entries in
    let told : c.announced-announced.result ≡ memory.announced c.loop-number.number = c.announced-announced.ensures ∙ ap (λ (m : Memory). m.announced c.loop-number.number) c.memory.ensures.memory in
    let first : 0 + length before.0 ≡ c.loop-number.number = (let many = before.1 in omega (arith, many)) in
    let own : IsActorOf core.limits core.entries core.demand.wanted c.loop-number.number at = (c.in-Some.ensures.keeps, c.in-Some.ensures.command, c.in-Some.ensures.wanted) in (
      before.0 ++ at ∷ [],
      length-append before.0 (at ∷ []) ∙ ap (λ n. n + 1) before.1,
      actors_more core.limits core.entries core.demand.wanted 0 before.0 at before.2 (rw (← first) at own),
      cells_then _ _ _ _ _ _ before.3 (rw told at c.in_ok-y.ensures)
          (cells_more memory 0 before.0 at ∙ ap (λ n. cells_from memory 0 before.0 ++ actor_cells memory n at) first),
    )
