use Rattle.std.proofs.Common.{◌≡◌, ◌≤◌, ◌+◌, drop}
use Rattle.base_page.specs.Rules.{held_count}
use Rattle.base_page.proofs.held.held_count.Given as goal

abbrev pub invariant-loop-item : goal.invariant-loop-item
invariant-loop-item l = (l.count + held_count (drop l.item-index l.items) ≡ held_count l.items) × (l.count ≤ l.item-index)
