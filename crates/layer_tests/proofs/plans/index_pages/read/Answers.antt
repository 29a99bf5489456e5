use Rattle.layer_tests.proofs.IndexPages.{lower_stands}
use Rattle.layer_tests.proofs.plans.index_pages.read.Goals as goal

pub based-requires-clause-stands : goal.based-requires-clause-stands
based-requires-clause-stands g c = rw c.lower.ensures (lower_stands c.args.level c.requires.index c.requires.top)
