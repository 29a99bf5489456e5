use Rattle.std.proofs.Common.{refl, subst}
use Rattle.std.specs.List.{All}
use Rattle.std.proofs.lemmas.List.{take_all}
use Rattle.std.proofs.lemmas.List.Elements.{All-more}
use Rattle.record_slots.specs.Spells.{HasItemTexts}
use Rattle.widening.specs.FirstForm.{IsFew}
use Rattle.widening.proofs.narrow.are_narrow.Goals as goal

pub loop-item-preserved : goal.loop-item-preserved
loop-item-preserved c =
    All-more (HasItemTexts IsFew) c.args.items.now c.loop-item.item-index c.item-item.result c.loop-item-test.true c.loop-item.invariant
    (subst (HasItemTexts IsFew) c.item-item.is (c.is_narrow_item.ensures.0 c.if-not-is_narrow_item.false))

pub returns : goal.returns
returns c = (λ told. subst (All (HasItemTexts IsFew)) (take_all c.loop-item.item-index c.args.items.now c.loop-item-test.false) c.loop-item.invariant, λ all. refl)
