use Rattle.record_slots.proofs.SpellingLaws.{spelling_there, spelling_length}
use Rattle.record_slots.proofs.spelling_laws.rows_have_words.Goals as goal

pub returns-clause-spelled : goal.returns-clause-spelled
returns-clause-spelled c = spelling_there

pub returns-clause-all : goal.returns-clause-all
returns-clause-all c = spelling_length
