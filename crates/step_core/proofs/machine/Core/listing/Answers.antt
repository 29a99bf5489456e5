use Rattle.std.proofs.Common.{sym, subst}
use Rattle.traces.specs.trace.Trace.{memory_of}
use Rattle.listing.specs.Listed.{IsListing}
use Rattle.step_core.proofs.machine.Core.listing.Goals as goal

pub add_pairs-requires-clause-stand : goal.add_pairs-requires-clause-stand
add_pairs-requires-clause-stand g c =
    let core = c.self.invariant in
    (memory_of c.self.inside.limits c.self.inside.trace.items, sym core.has, c.leaves_stand.ensures.stand _ _ core.state)

pub returns-in-Ok-clause-ok : goal.returns-in-Ok-clause-ok
returns-in-Ok-clause-ok g c =
    let core = c.self.invariant in
    let leaves = c.leaves_stand.ensures.stand _ _ core.state in
    subst (λ v. IsListing v.limits v.entries c.add_pairs.new.pairs.items) c.self.view_is
    (c.pages_are_listed.ensures _ _ leaves _ (c.in-Ok.ensures.ok _ (sym core.has) leaves))
