use Rattle.std.proofs.Common.{◌<◌, length, sym, ap, arith}
use Rattle.epochs.specs.Limbo.{stamped_by}
use Rattle.epochs.proofs.Restaged.{first_stamped, restaged_next}
use Rattle.epochs.proofs.stages.stamp_from.Goals as goal

pub loop-place-init : goal.loop-place-init
loop-place-init g c = ap (λ entries. record c.args.queue.now { entries = entries }) (sym (first_stamped c.args.epoch c.args.from c.args.queue.now.entries c.requires.within c.requires.stamped))

pub loop-place-preserved : goal.loop-place-preserved
loop-place-preserved g c =
    let lt : c.loop-place.place < length c.args.queue.now.entries = omega (arith, c.loop-place-test.true, ap length c.as_slice-place-end.ensures) in
    restaged_next (stamped_by c.args.epoch) c.args.queue.now c.loop-place.queue c.restage.new.self c.loop-place.place c.stamped_by-stage.result _ lt
    c.loop-place.invariant (rw c.as_slice.ensures at c.stamped_by-stage.ensures) (c.restage.ensures _)
