use Rattle.listing.proofs.Words.{inl, inr, arith, subst, sym}
use Rattle.listing.proofs.Finding.{IsOnWay, from_first, from_near, way_found, way_more, way_on, way_stands}
use Rattle.listing.proofs.leaf_page.leaf_with.Goals as goal

pub loop-init : goal.loop-init
loop-init g c = λ memory has leaves. elim c.first_of-pid.ensures [
  | inl first ↦ subst (IsOnWay memory leaves.pages c.args.from.now 0) (sym first) (from_first _ memory leaves c.args.from.now)
  | inr near ↦ subst (IsOnWay memory leaves.pages c.args.from.now 0) (sym near.0)
      (from_near _ memory leaves c.args.from.now c.args.near (c.requires.near memory has leaves) (λ chain stands. near.1 memory chain has stands))
]

pub page_of-leaf-requires-clause-there : goal.page_of-leaf-requires-clause-there
page_of-leaf-requires-clause-there g c =
    let (memory, has, leaves) = c.requires.stand in
    let below = (way_stands _ memory leaves _ _ _ (c.loop.invariant memory has leaves)).0 in
    omega (arith, below, c.requires.pids)

pub page_of-leaf-requires-clause-stands : goal.page_of-leaf-requires-clause-stands
page_of-leaf-requires-clause-stands g c =
    let (memory, has, leaves) = c.requires.stand in
    let at = c.loop.invariant memory has leaves in
    (memory, at.page.chain, has, (way_stands _ memory leaves _ _ _ at).1)

pub returns-in-None : goal.returns-in-None
returns-in-None g c = λ memory has leaves.
    way_found _ memory leaves _ _ _ (c.loop.invariant memory has leaves) c.page_of-leaf.result (λ chain. c.page_of-leaf.ensures.makes memory chain has) (c.right_of.ensures.there c.in-None.is)

pub loop-preserved : goal.loop-preserved
loop-preserved g c = λ memory has leaves.
    way_on _ memory leaves _ _ _ (c.loop.invariant memory has leaves) c.page_of-leaf.result (λ chain. c.page_of-leaf.ensures.makes memory chain has)
    c.in-Some.right c.in-Some.ensures.right.0 c.in-Some.ensures.right.1

pub unreachable-requires : goal.unreachable-requires
unreachable-requires g c =
    let (memory, has, leaves) = c.requires.stand in
    let below = way_more _ memory leaves _ _ _ (c.loop.invariant memory has leaves) in omega (arith, below, c.loop-test.false)
