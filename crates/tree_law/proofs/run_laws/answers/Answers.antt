use Rattle.tree_law.proofs.answering.Fitted.{fits, row_stands}
use Rattle.tree_law.proofs.answering.Heads.{head_stands}
use Rattle.tree_law.proofs.run_laws.answers.Goals as goal

pub returns-clause-stand : goal.returns-clause-stand
returns-clause-stand c = λ limits entries actor row state may. row_stands limits entries state actor row may

pub returns-clause-heads : goal.returns-clause-heads
returns-clause-heads c = λ limits entries page state above some. head_stands limits entries state page above some

pub returns-clause-fit : goal.returns-clause-fit
returns-clause-fit c = λ limits entries actor step answer state may is. fits limits entries state actor step answer may is
