use Rattle.bw_tree_c.proofs.Calling.{can_finish}
use Rattle.bw_tree_c.proofs.tests.busy_seats.told_of_seats.Goals as goal

pub finish-requires : goal.finish-requires
finish-requires c = record {
  can = can_finish c.in_ok-shared.shared.now 0 c.parted-one.result.0 c.in-Ok.taken.hand c.in-Ok.taken.place.value c.deref_mut.result.now c.begins-is_begun.new.place
      c.deref_mut.ensures.value c.in-Ok.ensures.taken c.begins-is_begun.ensures.later;
}
