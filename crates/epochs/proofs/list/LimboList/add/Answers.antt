use Rattle.std.proofs.Common.{arith}
use Rattle.epochs.proofs.Fronts.{added_kept}
use Rattle.epochs.proofs.Lists.{has_room}
use Rattle.epochs.proofs.list.LimboList.add.Goals as goal

pub push-requires : goal.push-requires
push-requires g c =
    let room = has_room _ c.args.number c.self.invariant.list (rw (← c.self.view_is) at c.requires) in
    omega (arith, room, c.self.invariant.room)

pub invariant_of-self : goal.invariant_of-self
invariant_of-self g c = rw c.push.ensures (added_kept _ _ c.args.number _ c.self.invariant (rw (← c.self.view_is) at c.requires))
