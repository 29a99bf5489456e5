use Rattle.std.proofs.Common.{◌≡◌, length, ap, arith}
use Rattle.epochs.proofs.Restaged.{compared_kept}
use Rattle.epochs.proofs.list.LimboList.compare.Goals as goal

pub invariant_of-self : goal.invariant_of-self
invariant_of-self g c =
    let all : length c.as_slice-all.result.now ≡ length c.self.inside.entries.entries = ap length c.as_slice-all.ensures in
    rw c.compare_first.ensures
    (compared_kept _ _ (length c.as_slice-all.result.now) _ c.args.announces.now _ (omega (arith, all)) (omega arith) (omega (arith, all)) (omega (arith, all)) c.self.invariant)
