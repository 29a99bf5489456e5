use Rattle.std.proofs.Common.{◌≡◌, drop}
use Rattle.record_slots.specs.Rules.{are_within}
use Rattle.record_slots.proofs.rules.are_within.Given as goal

abbrev pub invariant-loop-item : goal.invariant-loop-item
invariant-loop-item l = are_within l.low l.high (drop l.item-index l.items) ≡ are_within l.low l.high l.items
