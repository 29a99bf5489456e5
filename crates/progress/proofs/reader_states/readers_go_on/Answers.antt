use Rattle.progress.proofs.ReaderOthers.{begun_paid, stay_paid}
use Rattle.progress.proofs.ReaderStates.{begins_keep, steps_keep}
use Rattle.progress.proofs.ReaderSteps.{steps_paid}
use Rattle.progress.proofs.reader_states.readers_go_on.Goals as goal

pub returns : goal.returns
returns c = record { begins = begins_keep; begun = begun_paid; steps = steps_keep; stepped = steps_paid; lasts = stay_paid }
