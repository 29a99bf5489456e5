use Rattle.std.proofs.Common.{◌≡◌, drop, false}
use Rattle.record_slots.specs.Rules.{are_apart_after}
use Rattle.record_slots.proofs.rules.are_apart.Given as goal

abbrev pub invariant-loop-item : goal.invariant-loop-item
invariant-loop-item l = are_apart_after l.last (drop l.item-index l.items) ≡ are_apart_after false l.items
