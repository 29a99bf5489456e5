use Rattle.running_tree.proofs.Words.{subst, ClosedTree, CountsAll}
use Rattle.running_tree.proofs.Listing.{counts_all}
use Rattle.running_tree.proofs.closing.closed_tree.ClosedTree.count.Goals as goal

pub returns : goal.returns
returns g c = subst (λ (t : ClosedTree). CountsAll t c.count_pairs.result) c.self.view_is
    (counts_all c.leaves_stand.ensures.stand c.pages_are_listed.ensures _ c.count_pairs.result (λ memory keep leaves. c.count_pairs.ensures memory (c.self.invariant.full, keep) leaves))
