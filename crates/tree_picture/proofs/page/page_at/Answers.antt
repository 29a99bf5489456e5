use Rattle.std.proofs.Common.{refl, subst, sym}
use Rattle.traces.specs.chain.Fitted.{IsPageChain, Makes}
use Rattle.tree_picture.proofs.page.page_at.Goals as goal

pub invariant_of-result : goal.invariant_of-result
invariant_of-result g c =
    let (chain, stands) = c.requires.stands in
    let same = sym (c.in_ok-records.ensures chain stands) in
    (rw same at (c.page_of-page.ensures.makes _ chain refl stands), subst IsPageChain same stands.fits)
