use Rattle.progress.proofs.reader_states.opens_with_readers.Goals as goal
use Rattle.progress.proofs.ReaderStates.{opens}

pub returns : goal.returns
returns c = opens c.opens.ensures c.opens_directly.ensures
