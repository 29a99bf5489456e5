use Rattle.std.proofs.Common.{refl, ◌∙◌}
use Rattle.structure_changes.proofs.RootFits.{two_items}
use Rattle.structure_changes.proofs.root.two_terms.Goals as goal

pub returns : goal.returns
returns c = two_items c.put-2.new.self _ _ c.args.separator c.requires c.put-2.ensures.items.ascending
    (λ q. c.put-2.ensures.contents q ∙ rw (c.put.ensures.contents q, c.default.ensures, c.new-items.ensures) refl)
