use Rattle.bw_tree_c.proofs.Filling.{HasFilled}
use Rattle.bw_tree_c.proofs.opening.slots_of.Given as goal

abbrev pub invariant-loop-seat : goal.invariant-loop-seat
invariant-loop-seat l = HasFilled l.yielded l.slots.items
