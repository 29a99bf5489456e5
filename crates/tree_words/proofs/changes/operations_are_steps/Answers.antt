use Rattle.tree_words.proofs.Changed.{all_leave, all_quiet}
use Rattle.tree_words.proofs.changes.operations_are_steps.Goals as goal

pub returns-clause-leave : goal.returns-clause-leave
returns-clause-leave c = all_leave

pub returns-clause-quiet : goal.returns-clause-quiet
returns-clause-quiet c = all_quiet
