use Rattle.running_tree.proofs.Words.{◌*◌, ◌≤◌, HasCounted, IsSame}
use Rattle.running_tree.proofs.seat.BwSeat.count_free.Given as goal

abbrev pub invariant-loop-word : goal.invariant-loop-word
invariant-loop-word g l = record {
  same : IsSame l.initial.self l.self;
  counted : HasCounted l.initial.self.limits l.initial.self.actor l.kind (64 * l.word) l.initial.self.seen l.self.seen l.count;
  few : l.count ≤ 64 * l.word;
}
