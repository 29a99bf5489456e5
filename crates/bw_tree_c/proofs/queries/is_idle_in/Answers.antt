use Rattle.std.proofs.Common.{refl, subst}
use Rattle.bw_tree_c.specs.Running.{TellsIdle}
use Rattle.bw_tree_c.specs.declared.place.Place.{Place}
use Rattle.bw_tree_c.proofs.Later.{later_self}
use Rattle.bw_tree_c.proofs.Calling.{can_finish, on_seat}
use Rattle.bw_tree_c.proofs.queries.is_idle_in.Goals as goal

pub finish-requires : goal.finish-requires
finish-requires c = record {
  can = can_finish c.args.shared.now c.args.seat c.args.since c.in-Ok.taken.hand c.in-Ok.taken.place.value c.in-Ok.taken.place.value c.in-Ok.taken.place.value
      refl c.in-Ok.ensures.taken (later_self c.in-Ok.taken.place.value.seat);
}

pub returns-clause-called : goal.returns-clause-called
returns-clause-called c = on_seat c.args.shared.now c.args.seat c.args.since c.in-Ok.taken.hand c.in-Ok.taken.place.value c.in-Ok.taken.place.value c.in-Ok.taken.place.value
    refl c.in-Ok.ensures.taken (later_self c.in-Ok.taken.place.value.seat)
    c.finish.result _ _ (refl, rw c.finish.ensures.status (subst (λ (p : Place). TellsIdle p.seat c.tell_idle-status.result) c.deref.ensures c.tell_idle-status.ensures)) c.finish.ensures.finished
