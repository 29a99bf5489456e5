use Rattle.std.proofs.Common.{arith}
use Rattle.workers.proofs.Going.{ran}
use Rattle.seats.proofs.Pushed.{one_longer}
use Rattle.workers.proofs.worker.run_all.Goals as goal

pub loop-command-preserved : goal.loop-command-preserved
loop-command-preserved g c =
    let count = c.loop-command.invariant.count in
    let grown = one_longer c.loop-command.replies.items c.push_reserved.new.self.items c.run_to_end.result c.push_reserved.ensures.items in record {
      goes =
          ran c.args.seat.now c.loop-command.seat c.run_to_end.new.seat c.args.commands.now c.loop-command.command-index c.command-item.result c.copied.result
          c.loop-command.replies.items c.push_reserved.new.self.items c.run_to_end.result
          c.loop-command.invariant.goes c.run_to_end.ensures.goes c.copied.ensures c.loop-command-test.true c.command-item.is count c.push_reserved.ensures.items;
      count = omega (arith, grown, count);
      room = rw (c.push_reserved.ensures.capacity) c.loop-command.invariant.room;
    }
