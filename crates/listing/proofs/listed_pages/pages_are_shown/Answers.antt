use Rattle.listing.proofs.Showing.{page_is_shown}
use Rattle.listing.proofs.listed_pages.pages_are_shown.Goals as goal

pub returns : goal.returns
returns c limits entries = page_is_shown limits entries c.leaves_stand.ensures.map c.side_chain_is_one.ensures
