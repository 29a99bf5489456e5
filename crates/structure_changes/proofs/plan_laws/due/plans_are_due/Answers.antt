use Rattle.structure_changes.proofs.Due.{hold_due, merge_due, remove_due, root_due, split_due, term_due, unterm_due}
use Rattle.structure_changes.proofs.plan_laws.due.plans_are_due.Goals as goal

pub returns-clause-split : goal.returns-clause-split
returns-clause-split c = split_due

pub returns-clause-term : goal.returns-clause-term
returns-clause-term c = term_due

pub returns-clause-root : goal.returns-clause-root
returns-clause-root c = root_due

pub returns-clause-hold : goal.returns-clause-hold
returns-clause-hold c = hold_due

pub returns-clause-remove : goal.returns-clause-remove
returns-clause-remove c = remove_due

pub returns-clause-merge : goal.returns-clause-merge
returns-clause-merge c = merge_due

pub returns-clause-unterm : goal.returns-clause-unterm
returns-clause-unterm c = unterm_due
