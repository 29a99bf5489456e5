use Rattle.std.proofs.Common.{refl}
use Rattle.linearization.proofs.runs.PageLife.{is_run, is_quiet, taken_2, split_off, rooted, indexed_2, held_2, removed_2, merged_2, cleared_2, index_level, index_whole, has_held_term}
use Rattle.linearization.proofs.examples.page_lives.Goals as goal

pub returns-clause-run : goal.returns-clause-run
returns-clause-run c = is_run

pub returns-clause-quiet : goal.returns-clause-quiet
returns-clause-quiet c = is_quiet

pub returns-clause-taken : goal.returns-clause-taken
returns-clause-taken c = taken_2

pub returns-clause-split : goal.returns-clause-split
returns-clause-split c = (split_off, refl)

pub returns-clause-rooted : goal.returns-clause-rooted
returns-clause-rooted c = (rooted, refl)

pub returns-clause-indexed : goal.returns-clause-indexed
returns-clause-indexed c = indexed_2

pub returns-clause-held : goal.returns-clause-held
returns-clause-held c = (held_2, refl)

pub returns-clause-removed : goal.returns-clause-removed
returns-clause-removed c = (removed_2, refl)

pub returns-clause-merged : goal.returns-clause-merged
returns-clause-merged c = (merged_2, refl)

pub returns-clause-untermed : goal.returns-clause-untermed
returns-clause-untermed c = (cleared_2, refl)

pub returns-clause-emptied : goal.returns-clause-emptied
returns-clause-emptied c = refl

pub returns-clause-level : goal.returns-clause-level
returns-clause-level c = index_level

pub returns-clause-whole : goal.returns-clause-whole
returns-clause-whole c = index_whole

pub returns-clause-term : goal.returns-clause-term
returns-clause-term c = has_held_term
