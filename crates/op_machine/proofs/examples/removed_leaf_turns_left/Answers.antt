use Rattle.op_machine.proofs.TurningLeft.{insert_not_anew, insert_turns, lookup_not_anew, lookup_turns}
use Rattle.op_machine.proofs.examples.removed_leaf_turns_left.Goals as goal

pub returns-clause-insert : goal.returns-clause-insert
returns-clause-insert c = insert_turns

pub returns-clause-lookup : goal.returns-clause-lookup
returns-clause-lookup c = lookup_turns

pub returns-clause-anew : goal.returns-clause-anew
returns-clause-anew c = insert_not_anew

pub returns-clause-looked_anew : goal.returns-clause-looked_anew
returns-clause-looked_anew c = lookup_not_anew
