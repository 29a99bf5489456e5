use Rattle.running_tree.proofs.Words.{◌≡◌, List, ℕ, ap, ◌∙◌, Upsert, upsert_of}
use Rattle.running_tree.proofs.Going.{same_on}
use Rattle.running_tree.proofs.Resting.{at_index}
use Rattle.running_tree.proofs.Upserting.{loaded_then, stops}
use Rattle.running_tree.proofs.tree.Tree.load.Goals as goal

pub returns-in-Some-clause-stopped : goal.returns-in-Some-clause-stopped
returns-in-Some-clause-stopped g c =
    let asked : Upsert c.copied.result c.copied-in-loop-place.result ≡ upsert_of c.index-pairs-place.result = ap
    (λ (k : List ℕ). Upsert k c.copied-in-loop-place.result) c.copied.ensures ∙ ap (λ (v : List ℕ). Upsert c.index-pairs-place.result.0 v)
    c.copied-in-loop-place.ensures in
    stops c.args.pairs.now c.loop-place.place c.index-pairs-place.result c.args.seat.now c.loop-place.seat c.call-called.new.seat
    (Upsert c.copied.result c.copied-in-loop-place.result) _ c.call-called.result asked
    c.loop-place.invariant.loaded c.call-called.ensures.called
    (at_index c.args.pairs.now c.loop-place.place c.index-pairs-place.result c.loop-place-test.true c.index-pairs-place.is) c.call-called.ensures.same
    c.in-Some.stop c.in-Some.ensures

pub loop-place-preserved : goal.loop-place-preserved
loop-place-preserved g c =
    let asked : Upsert c.copied.result c.copied-in-loop-place.result ≡ upsert_of c.index-pairs-place.result = ap
    (λ (k : List ℕ). Upsert k c.copied-in-loop-place.result) c.copied.ensures ∙ ap (λ (v : List ℕ). Upsert c.index-pairs-place.result.0 v)
    c.copied-in-loop-place.ensures in
    record {
      same = same_on c.args.seat.now c.loop-place.seat c.call-called.new.seat c.loop-place.invariant.same c.call-called.ensures.same;
      loaded =
          loaded_then c.args.pairs.now c.loop-place.place c.index-pairs-place.result c.args.seat.now c.loop-place.seat c.call-called.new.seat
          (Upsert c.copied.result c.copied-in-loop-place.result) _ c.call-called.result asked
          c.loop-place.invariant.loaded c.call-called.ensures.called c.loop-place-test.true c.index-pairs-place.is c.in_default.ensures;
    }
