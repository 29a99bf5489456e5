use Rattle.bw_model.proofs.NextKeyLaws as laws
use Rattle.bw_model.proofs.next_keys.keys_have_neighbours.Goals as goal

pub returns-clause-first : goal.returns-clause-first
returns-clause-first c = laws.none_is_first

pub returns-clause-short : goal.returns-clause-short
returns-clause-short c = laws.before_is_key

pub returns-clause-before : goal.returns-clause-before
returns-clause-before c = laws.before_is_greatest

pub returns-clause-after : goal.returns-clause-after
returns-clause-after c = laws.after_is_above
