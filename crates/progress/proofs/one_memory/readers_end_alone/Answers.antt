use Rattle.progress.proofs.one_memory.readers_end_alone.Goals as goal
use Rattle.progress.proofs.rounds.Ending.{lookups_end_in_states, rounds_end_in_states}

pub returns-clause-lookups : goal.returns-clause-lookups
returns-clause-lookups c = lookups_end_in_states

pub returns-clause-rounds : goal.returns-clause-rounds
returns-clause-rounds c = rounds_end_in_states
