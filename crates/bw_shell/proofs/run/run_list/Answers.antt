use Rattle.std.proofs.Common.{refl}
use Rattle.bw_shell.specs.Text.{listing_text}
use Rattle.bw_shell.proofs.run.run_list.Goals as goal

pub returns-in-Ok : goal.returns-in-Ok
returns-in-Ok g c = (
  listing_text c.in-Ok.pairs.items,
  (refl, c.pairs_of.ensures.linearized, c.in-Ok.pairs.items, c.in-Ok.ensures.pairs, refl),
  rw c.as_slice.ensures.value at c.show_listing.ensures,
)
