use Rattle.table_rule.proofs.Words.{SitsAt, Writing, seen_of, tail_from, take, ◌-◌, ◌≡◌, ◌≤◌}
use Rattle.table_rule.proofs.placing.fill_row.Given as goal

abbrev pub invariant-loop-i : goal.invariant-loop-i
invariant-loop-i g l = record {
  within : l.i ≤ l.behind;
  table : l.seat.table_id ≡ l.initial.seat.table_id;
  seen : seen_of l.seat.me ≡ seen_of l.initial.seat.me;
  at : SitsAt l.limits l.actor (Writing l.placed.row l.first (take l.i (tail_from l.placed.spelt.now))) l.seat.me;
}

abbrev pub decreases-loop-i : goal.decreases-loop-i
decreases-loop-i g l = l.behind - l.i
