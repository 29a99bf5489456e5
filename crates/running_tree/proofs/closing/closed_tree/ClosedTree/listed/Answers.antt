use Rattle.running_tree.proofs.Words.{subst, ClosedTree, ListsAll}
use Rattle.running_tree.proofs.Listing.{lists_all}
use Rattle.running_tree.proofs.closing.closed_tree.ClosedTree.listed.Goals as goal

pub returns : goal.returns
returns g c = subst (λ (t : ClosedTree). ListsAll t c.add_pairs.new.pairs.items) c.self.view_is
    (lists_all c.leaves_stand.ensures.stand c.pages_are_listed.ensures _ c.add_pairs.new.pairs.items (λ memory keep leaves. c.in-Ok.ensures.ok memory (c.self.invariant.full, keep) leaves))
