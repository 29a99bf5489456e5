use Rattle.tree_law.proofs.answering.Answering.{answers}
use Rattle.tree_law.proofs.invariant.reply_is_by_a_log.Goals as goal

pub returns : goal.returns
returns c = λ m log o knows point logs g a command reply may. answers g a command reply may
