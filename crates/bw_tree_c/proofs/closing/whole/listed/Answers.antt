use Rattle.running_tree.proofs.Leaving.{are_closed}
use Rattle.bw_tree_c.proofs.closing.whole.listed.Goals as goal

pub returns : goal.returns
returns c = are_closed c.args.tree.limits c.args.seats.items c.in-Ok.closed c.listed.result.items c.in-Ok.ensures.ok c.listed.ensures
