use Rattle.bw_tree_c.proofs.Calling.{can_finish}
use Rattle.bw_tree_c.proofs.tests.pages.resumes_a_page.Goals as goal

pub finish-requires : goal.finish-requires
finish-requires c = record {
  can = can_finish c.in-Some.shared.now 0 c.receipt.result c.in-Ok.taken.hand c.in-Ok.taken.place.value c.deref_mut.result.now c.begins-is_begun.new.place
      c.deref_mut.ensures.value c.in-Ok.ensures.taken c.begins-is_begun.ensures.later;
}
