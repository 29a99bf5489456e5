use Rattle.std.proofs.Common.{subst}
use Rattle.running_tree.specs.Runs.{StartsWith}
use Rattle.running_tree.specs.Seats.{IsSame}
use Rattle.running_tree.proofs.Going.{same_on}
use Rattle.seats.proofs.Seeing.{heeded}
use Rattle.workers.proofs.threads.work_with.Goals as goal

pub returns : goal.returns
returns g c = record {
  left = c.work.new.seat;
  does = subst (λ s. g.W.Work.does c.args.work.now s c.work.new.self c.work.new.seat) c.note-before.ensures.stays c.work.ensures.does;
  on = heeded c.own_lasts.ensures c.work.new.seat c.heed.new.seat c.note-before.result c.heed.ensures.heeds;
  same = same_on c.args.seat.now c.work.new.seat c.heed.new.seat (subst (λ s. IsSame s c.work.new.seat) c.note-before.ensures.stays c.work.ensures.same) c.heed.ensures.heeds.same;
  grows = subst (λ n. StartsWith c.heed.new.seat.seen n.seen) c.note-before.ensures.noted c.heed.ensures.heeds.begins;
}
