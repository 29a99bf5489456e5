use Rattle.std.proofs.Common.{arith}
use Rattle.workers.proofs.Doing.{none_done, one_more}
use Rattle.workers.proofs.worker.Worker.work.Goals as goal

pub loop-init : goal.loop-init
loop-init g c = record {
  done = none_done c.args.place c.args.limit c.args.self.now c.requires.idle c.requires.empty;
  room = c.requires.room;
}

pub loop-preserved : goal.loop-preserved
loop-preserved g c =
    let count = c.len.ensures in
    let below = c.if-len-limit.false in record {
      done = one_more c.args.place c.args.limit c.args.self.now.seat c.loop.self c.run.new.self c.loop.invariant.done (omega (arith, count, below)) c.run.ensures.adds;
      room = rw c.run.ensures.room c.loop.invariant.room;
    }
