use Rattle.progress.proofs.one_memory.rounds_end.Goals as goal
use Rattle.progress.proofs.rounds.Ending.{left_rounds_end, lookups_end, stale_rounds_end, standing_rounds_end}

pub returns-clause-lookups : goal.returns-clause-lookups
returns-clause-lookups c = lookups_end

pub returns-clause-left : goal.returns-clause-left
returns-clause-left c = left_rounds_end

pub returns-clause-stale : goal.returns-clause-stale
returns-clause-stale c = stale_rounds_end

pub returns-clause-standing : goal.returns-clause-standing
returns-clause-standing c = standing_rounds_end
