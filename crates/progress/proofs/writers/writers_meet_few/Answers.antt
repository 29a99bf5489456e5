use Rattle.progress.proofs.writers.writers_meet_few.Goals as goal
use Rattle.progress.proofs.meetings.Among as among

pub returns : goal.returns
returns c = among.writers_meet_few
