use Rattle.progress.proofs.writers.runs_make_progress.Goals as goal
use Rattle.progress.proofs.meetings.Whole.{runs_progress}

pub returns : goal.returns
returns c = runs_progress
