use Rattle.std.proofs.Common.{◌≡◌, ◌≤◌, ◌-◌, length}
use Rattle.row_search.proofs.Words.{AllWithin, Less, Greater, key_cmp, items_of}
use Rattle.row_search.proofs.row_at.RowAt.place_of.Given as goal

abbrev pub invariant-loop-low : goal.invariant-loop-low
invariant-loop-low g l = record {
  same : l.pass ≡ l.initial.pass;
  ordered : l.low ≤ l.high;
  few : l.high ≤ 24;
  top : l.high ≤ length (items_of l.self.content);
  below : AllWithin (λ item. key_cmp item.key l.key ≡ Less) (items_of l.self.content) 0 l.low;
  above : AllWithin (λ item. key_cmp item.key l.key ≡ Greater) (items_of l.self.content) l.high (length (items_of l.self.content));
}

abbrev pub decreases-loop-low : goal.decreases-loop-low
decreases-loop-low g l = l.high - l.low
