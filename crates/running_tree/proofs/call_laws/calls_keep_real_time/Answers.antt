use Rattle.running_tree.proofs.RealTime.{after_calls, after_resumed}
use Rattle.running_tree.proofs.call_laws.calls_keep_real_time.Goals as goal

pub returns : goal.returns
returns c = record {
  called = λ limits. after_calls c.keeps_real_time.ensures limits;
  resumed = λ limits. after_resumed c.keeps_real_time.ensures limits;
}
