use Rattle.listing.proofs.Words.{arith}
use Rattle.listing.proofs.Finding.{found_among, found_stands, shows_from}
use Rattle.listing.proofs.leaf_page.page_from.Goals as goal

pub page_of-page-requires-clause-there : goal.page_of-page-requires-clause-there
page_of-page-requires-clause-there g c =
    let (memory, has, leaves) = c.requires.stand in
    let below = (found_stands _ memory leaves _ _ (c.leaf_with-leaf.ensures memory has leaves)).0 in
    omega (arith, below, c.requires.pids)

pub page_of-page-requires-clause-stands : goal.page_of-page-requires-clause-stands
page_of-page-requires-clause-stands g c =
    let (memory, has, leaves) = c.requires.stand in
    let found = c.leaf_with-leaf.ensures memory has leaves in
    (memory, found.page.chain, has, (found_stands _ memory leaves _ _ found).1)

pub returns-clause-page : goal.returns-clause-page
returns-clause-page g c = λ memory has leaves.
    rw (c.show.ensures, c.next.ensures)
    (shows_from _ memory leaves _ _ (c.leaf_with-leaf.ensures memory has leaves) c.page_of-page.result (λ chain. c.page_of-page.ensures.makes memory chain has) c.page_of-page.ensures.ruled)

pub returns-clause-leaf : goal.returns-clause-leaf
returns-clause-leaf g c = λ memory has leaves. found_among _ memory leaves _ _ (c.leaf_with-leaf.ensures memory has leaves)
