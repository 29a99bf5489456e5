use Rattle.std.proofs.Common.{[], ◌∷◌, ◌∙◌, refl}
use Rattle.std.specs.List.Sorted.{IsStrictlySortedBy}
use Rattle.traces.proofs.FittedLaws.{items_unique}
use Rattle.layer_tests.proofs.plans.index_pages.item.Goals as goal

pub returns : goal.returns
unfolding IsStrictlySortedBy
returns c =
    items_unique c.put.new.self (record { key = c.args.key; content = c.args.content } ∷ []) c.put.ensures.items.ascending (tt, tt) (λ q. c.put.ensures.contents q ∙ rw c.new-items.ensures refl)
