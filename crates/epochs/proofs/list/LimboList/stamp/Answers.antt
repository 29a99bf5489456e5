use Rattle.epochs.proofs.Restaged.{stamped_kept}
use Rattle.epochs.proofs.list.LimboList.stamp.Goals as goal

pub invariant_of-self : goal.invariant_of-self
invariant_of-self g c = rw c.stamp_from.ensures (stamped_kept _ _ c.args.epoch _ c.self.invariant)
