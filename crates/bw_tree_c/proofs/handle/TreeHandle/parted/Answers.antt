use Rattle.std.proofs.Common.{◌+◌, subst, sym}
use Rattle.call_log.specs.declared.log.Authors.TheVariants.{AllFrom, One}
use Rattle.bw_tree_c.specs.Handles.{IsReceipt}
use Rattle.bw_tree_c.proofs.Parting.{one_may, others_may}
use Rattle.bw_tree_c.proofs.handle.TreeHandle.parted.Goals as goal

pub returns-clause-one_may : goal.returns-clause-one_may
returns-clause-one_may c =
    let kept = c.in-Some.ensures.kept in
    let has = c.requires.has in
    one_may c.args.self.now.kept.value has.0 has.1 c.args.since c.parted.result.0 c.requires.may has.2
    (subst (λ k. IsReceipt k (One has.0) has.1 c.parted.result.0) (sym kept)
    (c.parted.ensures.one has.0 has.1 (subst (λ k. IsReceipt k (AllFrom has.0) has.1 c.args.since) kept has.2)))

pub returns-clause-others_may : goal.returns-clause-others_may
returns-clause-others_may c =
    let kept = c.in-Some.ensures.kept in
    let has = c.requires.has in
    others_may c.args.self.now.kept.value has.0 has.1 c.args.since c.parted.result.1 c.requires.may has.2
    (subst (λ k. IsReceipt k (AllFrom (has.0 + 1)) has.1 c.parted.result.1) (sym kept)
    (c.parted.ensures.others has.0 has.1 (subst (λ k. IsReceipt k (AllFrom has.0) has.1 c.args.since) kept has.2)))
