use Rattle.listing.proofs.Listings.{leaves_are_listed}
use Rattle.listing.proofs.listed_pages.pages_are_listed.Goals as goal

pub returns : goal.returns
returns c limits entries = leaves_are_listed limits entries c.leaves_stand.ensures.map c.side_chain_is_one.ensures
