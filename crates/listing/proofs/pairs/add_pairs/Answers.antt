use Rattle.listing.proofs.Words.{◌≡◌, ◌++◌, ◌∙◌, ap, arith, sym, pairs_of}
use Rattle.listing.proofs.Walking.{is_more, leaf_at, leaf_below, leaf_last, leaf_more, none_listed}
use Rattle.listing.proofs.pairs.add_pairs.Goals as goal

pub loop-init : goal.loop-init
loop-init g c = record {
  listed = λ memory has. rw c.requires.empty (none_listed c.args.limits.now memory);
  count = rw c.requires.empty (omega arith);
  capacity = omega arith;
}

pub page_of-leaf-requires-clause-there : goal.page_of-leaf-requires-clause-there
page_of-leaf-requires-clause-there g c =
    let (memory, has, leaves) = c.requires.stand in
    let below = leaf_below _ memory leaves _ _ _ (c.loop.invariant.listed memory has leaves) in
    omega (arith, below, c.requires.pids)

pub page_of-leaf-requires-clause-stands : goal.page_of-leaf-requires-clause-stands
page_of-leaf-requires-clause-stands g c =
    let (memory, has, leaves) = c.requires.stand in
    let (chain, stands) = leaf_at _ memory leaves _ _ _ (c.loop.invariant.listed memory has leaves) in
    (memory, chain, has, stands)

pub returns-in-None-clause-ok : goal.returns-in-None-clause-ok
returns-in-None-clause-ok g c = λ memory has leaves.
    let grown : c.add_values.new.pairs.items ≡ c.loop.pairs.items ++ pairs_of c.page_of-leaf.result.items = c.in_ok-add_values.ensures.ok ∙ ap
    (λ items. c.loop.pairs.items ++ pairs_of items) c.items.ensures in
    rw grown (leaf_last _ memory leaves _ _ _ (c.loop.invariant.listed memory has leaves) c.page_of-leaf.result
    (λ chain. c.page_of-leaf.ensures.makes memory chain has) c.page_of-leaf.ensures.ruled (sym c.right.ensures ∙ c.in-None.is))

pub loop-preserved : goal.loop-preserved
loop-preserved g c =
    let grown : c.add_values.new.pairs.items ≡ c.loop.pairs.items ++ pairs_of c.page_of-leaf.result.items = c.in_ok-add_values.ensures.ok ∙ ap
    (λ items. c.loop.pairs.items ++ pairs_of items) c.items.ensures in
    record {
      listed =
          λ memory has leaves. rw grown (leaf_more _ memory leaves _ _ _ (c.loop.invariant.listed memory has leaves) c.page_of-leaf.result
          (λ chain. c.page_of-leaf.ensures.makes memory chain has) c.page_of-leaf.ensures.ruled _ (sym c.right.ensures ∙ c.in-Some.is));
      count = omega (arith, c.in_ok-add_values.ensures.count, c.loop.invariant.count);
      capacity = omega (arith, c.add_values.ensures.capacity, c.loop.invariant.capacity);
    }

pub unreachable-requires : goal.unreachable-requires
unreachable-requires g c =
    let (memory, has, leaves) = c.requires.stand in
    let below = is_more _ memory leaves _ _ _ (c.loop.invariant.listed memory has leaves) in omega (arith, below, c.loop-test.false)
