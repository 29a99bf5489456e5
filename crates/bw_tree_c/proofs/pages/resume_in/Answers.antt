use Rattle.bw_tree_c.proofs.Calling.{can_finish, on_seat}
use Rattle.bw_tree_c.proofs.pages.resume_in.Goals as goal

pub finish-requires : goal.finish-requires
finish-requires c = record {
  can = can_finish c.args.shared.now c.args.seat c.args.since c.in-Ok.taken.hand c.in-Ok.taken.place.value c.deref_mut.result.now c.resume-status.new.self
      c.deref_mut.ensures.value c.in-Ok.ensures.taken c.resume-status.ensures.later;
}

pub returns-clause-called : goal.returns-clause-called
returns-clause-called c = on_seat c.args.shared.now c.args.seat c.args.since c.in-Ok.taken.hand c.in-Ok.taken.place.value c.deref_mut.result.now c.resume-status.new.self
    c.deref_mut.ensures.value c.in-Ok.ensures.taken c.resume-status.ensures.later
    c.finish.result _ _ (rw c.finish.ensures.status c.resume-status.ensures.run) c.finish.ensures.finished
