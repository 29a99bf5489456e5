use Rattle.progress.proofs.meetings.Own.{writer_steps_paid}
use Rattle.progress.proofs.meetings.Others.{begun_writers_paid, writers_stay_paid}
use Rattle.progress.proofs.meetings.Seldom.{begins_keep, steps_keep}
use Rattle.progress.proofs.writer_states.writers_go_on.Goals as goal

pub returns : goal.returns
returns c =
    let fit = c.answers.ensures.fit in
    record { begins = begins_keep; begun = begun_writers_paid; steps = steps_keep; stepped = writer_steps_paid fit; lasts = writers_stay_paid }
