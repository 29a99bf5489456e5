use Rattle.std.proofs.Common.{refl}
use Rattle.workers.proofs.worker.Worker.run.Goals as goal

pub returns-clause-adds : goal.returns-clause-adds
returns-clause-adds g c = record {
  result = record { job = c.args.task.job; seat = c.args.place; commands = c.args.task.commands; replies = c.run_all.new.replies };
  named = refl;
  kept = c.push_reserved.ensures.items;
  goes = rw (← c.as_slice.ensures.value) c.run_all.ensures.goes;
}
