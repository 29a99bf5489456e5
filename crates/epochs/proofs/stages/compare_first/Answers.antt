use Rattle.std.proofs.Common.{◌<◌, length, arith}
use Rattle.epochs.specs.Limbo.{compared_with}
use Rattle.epochs.proofs.Restaged.{restaged_next}
use Rattle.epochs.proofs.stages.compare_first.Goals as goal

pub loop-place-preserved : goal.loop-place-preserved
loop-place-preserved g c =
    let lt : c.loop-place.place < length c.args.queue.now.entries = omega (arith, c.loop-place-test.true, c.requires) in
    restaged_next (compared_with c.args.announces.now) c.args.queue.now c.loop-place.queue c.restage.new.self c.loop-place.place c.compared_with-stage.result _
    lt c.loop-place.invariant (rw c.as_slice.ensures at c.compared_with-stage.ensures) (c.restage.ensures _)
