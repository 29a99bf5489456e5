use Rattle.std.proofs.Common.{◌≡◌, ◌≤◌, ◌++◌, length, drop, take}
use Rattle.base_page.specs.Shown.{pairs_shown}
use Rattle.base_page.proofs.page.Page.show.Given as goal

abbrev pub invariant-loop-item : goal.invariant-loop-item
invariant-loop-item l = record {
  few : l.count ≤ l.item-index;
  there : l.count ≤ length l.pairs;
  rest : take l.count l.pairs ++ pairs_shown l.direction l.bound (drop l.item-index l.item-items) ≡ pairs_shown l.direction l.bound l.item-items;
}
