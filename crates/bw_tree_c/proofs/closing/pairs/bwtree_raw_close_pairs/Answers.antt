use Rattle.std.proofs.Common.{Some, length, subst, sym, ⊎_elim}
use Rattle.bw_tree_c.specs.Handles.{MayCallOn}
use Rattle.bw_tree_c.proofs.Handing.{may_busy, may_closed, may_handed, may_memory, may_more, may_unfinished}
use Rattle.bw_tree_c.proofs.closing.pairs.bwtree_raw_close_pairs.Goals as goal

pub returns-in-Some-clause-may : goal.returns-in-Some-clause-may
returns-in-Some-clause-may c = subst (λ k. MayCallOn k c.close_pairs.result.receipt) (sym c.in-Some.ensures.kept) (⊎_elim
    (⊎_elim
    (λ ok. may_handed c.args.since c.close_pairs.result.receipt (Some c.in-Some.shared.now) c.close_pairs.new.count c.close_pairs.new.pairs (c.close_pairs.ensures.ok ok))
    (⊎_elim
    (λ more. may_more c.args.since c.close_pairs.result.receipt (Some c.in-Some.shared.now) (length c.args.pairs.now) c.close_pairs.new.count (c.close_pairs.ensures.more more))
    (λ memory. may_memory c.args.since c.close_pairs.result.receipt (Some c.in-Some.shared.now) (c.close_pairs.ensures.memory memory))))
    (⊎_elim
    (λ closed. may_closed c.args.since c.close_pairs.result.receipt (Some c.in-Some.shared.now) (c.close_pairs.ensures.closed closed))
    (⊎_elim
    (λ busy. may_busy c.args.since c.close_pairs.result.receipt (Some c.in-Some.shared.now) (c.close_pairs.ensures.busy busy))
    (λ unfinished. may_unfinished c.args.since c.close_pairs.result.receipt (Some c.in-Some.shared.now) (c.close_pairs.ensures.unfinished unfinished))))
    c.close_pairs.ensures.told)
