use Rattle.structure_changes.proofs.MapKept.{hold_keeps, merge_keeps, remove_keeps, root_keeps, split_keeps, term_keeps, unterm_keeps}
use Rattle.structure_changes.proofs.plan_laws.map.links_keep_the_map.Goals as goal

pub returns-clause-split : goal.returns-clause-split
returns-clause-split c =
    λ memory page plan right row base_row is h holds some empty spare spare_base distinct. split_keeps memory page plan right row base_row is h holds some empty spare spare_base distinct

pub returns-clause-root : goal.returns-clause-root
returns-clause-root c = λ memory left right root new row is h empty spare. root_keeps memory root new row h empty spare

pub returns-clause-term : goal.returns-clause-term
returns-clause-term c = term_keeps

pub returns-clause-hold : goal.returns-clause-hold
returns-clause-hold c = hold_keeps

pub returns-clause-remove : goal.returns-clause-remove
returns-clause-remove c = remove_keeps

pub returns-clause-merge : goal.returns-clause-merge
returns-clause-merge c =
    λ memory left removed merge row is rules rules_removed h holds holds_removed spare. merge_keeps memory left removed merge row is rules rules_removed h holds holds_removed spare

pub returns-clause-unterm : goal.returns-clause-unterm
returns-clause-unterm c = unterm_keeps
