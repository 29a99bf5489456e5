use Rattle.std.proofs.Common.{take}
use Rattle.std.specs.List.{All}
use Rattle.record_slots.specs.Spells.{HasItemTexts}
use Rattle.widening.specs.FirstForm.{IsFew}
use Rattle.widening.proofs.narrow.are_narrow.Given as goal

abbrev pub invariant-loop-item : goal.invariant-loop-item
invariant-loop-item l = All (HasItemTexts IsFew) (take l.item-index l.items)
