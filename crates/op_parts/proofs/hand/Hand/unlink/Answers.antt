use Rattle.std.proofs.Common.{◌≡◌, ap, rules}
use Rattle.structure_changes.specs.declared.after.After.TheVariants.{Limbo}
use Rattle.op_parts.specs.declared.then.Then.TheVariants.{After}
use Rattle.op_parts.specs.Hands.{Hand}
use Rattle.op_parts.proofs.GoingOut.{gone, taken}
use Rattle.op_parts.proofs.hand.Hand.unlink.Goals as goal

pub take_out-requires : goal.take_out-requires
take_out-requires g c =
    let (limits, actor, k, after, kept, unlinks) = c.requires.due in
    let is : c.args.then.now ≡ After (Limbo c.in-Won-After-Limbo.unlinked) = search rules in
    let out = gone limits k c.args.end c.args.then.now c.in-Won-After-Limbo.unlinked after c.in-Won-After-Limbo.is-0 is unlinks in
    let here = rw (← ap (λ (h : Hand). h.limbo) c.self.view_is) at kept in
    rw c.as_slice.ensures.value ((taken limits actor c.self.inside.limbo k here c.chains_go_to_limbo.ensures.rows c.chains_go_to_limbo.ensures.page c.in-Won-After-Limbo.unlinked after out).new)

pub returns-in-Won-After-Limbo-clause-keeps : goal.returns-in-Won-After-Limbo-clause-keeps
returns-in-Won-After-Limbo-clause-keeps g c = λ limits actor k after kept unlinks.
    let is : c.args.then.now ≡ After (Limbo c.in-Won-After-Limbo.unlinked) = search rules in
    let out = gone limits k c.args.end c.args.then.now c.in-Won-After-Limbo.unlinked after c.in-Won-After-Limbo.is-0 is unlinks in
    let here = rw (← ap (λ (h : Hand). h.limbo) c.self.view_is) at kept in
    rw (c.take_out.ensures, c.as_slice.ensures.value)
    ((taken limits actor c.self.inside.limbo k here c.chains_go_to_limbo.ensures.rows c.chains_go_to_limbo.ensures.page c.in-Won-After-Limbo.unlinked after out).kept)
