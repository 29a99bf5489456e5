use Rattle.running_tree.proofs.Words.{◌≡◌, ◌++◌, List, [], length, Seat, HasPartsOf}
use Rattle.running_tree.proofs.closing.joined.Given as goal

abbrev pub invariant-loop-seat : goal.invariant-loop-seat
invariant-loop-seat g l = record {
  table : l.whole.table_id ≡ l.words.table_id;
  home : l.whole.me.1 ≡ [];
  joined : (done : List Seat) × (l.initial.seats.items ≡ l.seats.items ++ done) × HasPartsOf l.limits done l.whole.me.0;
}

abbrev pub decreases-loop-seat : goal.decreases-loop-seat
decreases-loop-seat g l = length l.seats.items
