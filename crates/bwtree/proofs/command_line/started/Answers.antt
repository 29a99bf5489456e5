use Rattle.bwtree.proofs.Statuses.{ends_with_0_or_1}
use Rattle.bwtree.proofs.command_line.started.Goals as goal

pub returns-clause-allowed : goal.returns-clause-allowed
returns-clause-allowed g c = λ _. let ran = rw c.in-Some.is at c.run_settings.ensures.runs in ends_with_0_or_1 c.args.settings.program _ _ _ _ _ _ _ _ ran.runs
