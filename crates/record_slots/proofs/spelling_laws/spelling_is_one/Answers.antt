use Rattle.record_slots.proofs.SpellingLaws.{spelling_one}
use Rattle.record_slots.proofs.spelling_laws.spelling_is_one.Goals as goal

pub returns : goal.returns
returns c = spelling_one
