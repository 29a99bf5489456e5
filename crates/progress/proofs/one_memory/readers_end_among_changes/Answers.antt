use Rattle.progress.proofs.one_memory.readers_end_among_changes.Goals as goal
use Rattle.progress.proofs.rounds.Among as among

pub returns : goal.returns
returns c = among.readers_end_among_changes
