use Rattle.running_tree.proofs.Words.{subst, ClosedTree, ListsPage}
use Rattle.running_tree.proofs.Listing.{lists_page}
use Rattle.running_tree.proofs.closing.closed_tree.ClosedTree.page.Goals as goal

pub returns-clause-page : goal.returns-clause-page
returns-clause-page g c = subst (λ (t : ClosedTree). ListsPage t c.args.from.now c.page_from-pairs.result.pairs c.page_from-pairs.result.next) c.self.view_is
    (lists_page c.leaves_stand.ensures.stand c.pages_are_shown.ensures _ c.args.from.now c.page_from-pairs.result.pairs c.page_from-pairs.result.next
    (λ memory keep leaves. c.page_from-pairs.ensures.page memory (c.self.invariant.full, keep) leaves))
