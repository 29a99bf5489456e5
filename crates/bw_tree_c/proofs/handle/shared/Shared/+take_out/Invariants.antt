use Rattle.bw_tree_c.proofs.handle.shared.Shared.+take_out.Given as goal

abbrev pub decreases-take_out : goal.decreases-take_out
decreases-take_out l = l.count
