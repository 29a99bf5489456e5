use Rattle.progress.proofs.writer_states.opens_with_writers.Goals as goal
use Rattle.progress.proofs.meetings.Seldom.{opens}

pub returns : goal.returns
returns c = opens c.opens.ensures c.opens_directly.ensures
