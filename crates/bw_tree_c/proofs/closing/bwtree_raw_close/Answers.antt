use Rattle.std.proofs.Common.{Some, subst, sym, ⊎_elim}
use Rattle.bw_tree_c.specs.Handles.{MayCallOn}
use Rattle.bw_tree_c.proofs.Handing.{may_busy, may_closed, may_ok}
use Rattle.bw_tree_c.proofs.closing.bwtree_raw_close.Goals as goal

pub returns-in-Some-clause-may : goal.returns-in-Some-clause-may
returns-in-Some-clause-may c = subst (λ k. MayCallOn k c.close.result.receipt) (sym c.in-Some.ensures.kept) (⊎_elim
    (λ ok. may_ok c.args.since c.close.result.receipt (Some c.in-Some.shared.now) (c.close.ensures.ok ok))
    (⊎_elim
    (λ closed. may_closed c.args.since c.close.result.receipt (Some c.in-Some.shared.now) (c.close.ensures.closed closed))
    (λ busy. may_busy c.args.since c.close.result.receipt (Some c.in-Some.shared.now) (c.close.ensures.busy busy)))
    c.close.ensures.told)
