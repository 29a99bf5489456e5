use Rattle.std.proofs.Common.{◌++◌, refl}
use Rattle.bw_shell.specs.Text.{listing_text}
use Rattle.race.specs.Results.{results_text}
use Rattle.race.proofs.run.close.Goals as goal

pub returns-in-Ok : goal.returns-in-Ok
returns-in-Ok g c = (
  results_text c.args.results.now ++ listing_text c.in-Ok.pairs.items,
  (c.in-Ok.pairs.items, c.in-Ok.ensures.ok, refl),
  c.outputs_add_up.ensures.both _ _ _ _ _ c.show_results.ensures (rw c.as_slice.ensures.value at c.show_listing.ensures),
)
