use Rattle.op_machine.proofs.Words.{ap, Task}
use Rattle.op_machine.proofs.Worth.{begin_few}
use Rattle.op_machine.proofs.operation.Operation.begin.Goals as goal

pub returns-clause-few : goal.returns-clause-few
returns-clause-few g c = λ r hand. rw (c.begin.ensures, c.reset.ensures.begun, ap (λ (task : Task). task.limits) c.begin.ensures) (begin_few c.args.limits.now)
