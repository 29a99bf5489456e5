use Rattle.listing.proofs.Words.{arith}
use Rattle.listing.proofs.Finding.{among_stands}
use Rattle.listing.proofs.leaf_page.first_of.Goals as goal

pub page_of-requires-clause-there : goal.page_of-requires-clause-there
page_of-requires-clause-there g c =
    let (memory, has, leaves) = c.requires.stand in
    let below = (among_stands _ memory leaves _ (c.requires.near memory has leaves)).0 in
    omega (arith, below, c.requires.pids)

pub page_of-requires-clause-stands : goal.page_of-requires-clause-stands
page_of-requires-clause-stands g c =
    let (memory, has, leaves) = c.requires.stand in
    let (chain, stands) = (among_stands _ memory leaves _ (c.requires.near memory has leaves)).1 in
    (memory, chain, has, stands)
