use Rattle.tree_words.proofs.Changed.{all_change, all_apart}
use Rattle.tree_words.proofs.changes.steps_change_one_word.Goals as goal

pub returns-clause-changes : goal.returns-clause-changes
returns-clause-changes c = all_change

pub returns-clause-places : goal.returns-clause-places
returns-clause-places c = all_apart
