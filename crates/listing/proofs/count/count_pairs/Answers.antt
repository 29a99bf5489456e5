use Rattle.listing.proofs.Words.{◌≡◌, ◌++◌, ◌+◌, ◌∙◌, [], ap, arith, length, refl, sym, length-append, pairs_of}
use Rattle.std.proofs.Common.{ℕ, List}
use Rattle.base_page.specs.declared.item.Item.{Item}
use Rattle.listing.proofs.Walking.{Pairs, is_more, leaf_at, leaf_below, leaf_last, leaf_more, none_listed}
use Rattle.listing.proofs.count.count_pairs.Goals as goal

-- The pairs of one more page are counted.
more_pairs : {count more : ℕ} {items here : List Item} (pairs : Pairs) → count ≡ length pairs → more ≡ length (pairs_of items) → items ≡ here
    → count + more ≡ length (pairs ++ pairs_of here)
more_pairs {here = here} pairs counted values same =
    let long = length-append pairs (pairs_of here) in
    let more' = values ∙ ap (λ items. length (pairs_of items)) same in
    omega (arith, long, more', counted)

pub loop-init : goal.loop-init
loop-init g c = record { listed = λ memory has. ([], none_listed c.args.limits.now memory, refl); few = omega arith }

pub page_of-leaf-requires-clause-there : goal.page_of-leaf-requires-clause-there
page_of-leaf-requires-clause-there g c =
    let (memory, has, leaves) = c.requires.stand in
    let (pairs, listed, counted) = c.loop.invariant.listed memory has in
    let below = leaf_below _ memory leaves _ _ _ (listed leaves) in
    omega (arith, below, c.requires.pids)

pub page_of-leaf-requires-clause-stands : goal.page_of-leaf-requires-clause-stands
page_of-leaf-requires-clause-stands g c =
    let (memory, has, leaves) = c.requires.stand in
    let (pairs, listed, counted) = c.loop.invariant.listed memory has in
    let (chain, stands) = leaf_at _ memory leaves _ _ _ (listed leaves) in
    (memory, chain, has, stands)

pub returns-in-None : goal.returns-in-None
returns-in-None g c = λ memory has leaves.
    let (pairs, listed, counted) = c.loop.invariant.listed memory has in
    let more = more_pairs pairs counted c.count_values-count.ensures.values c.items.ensures in (
      pairs ++ pairs_of c.page_of-leaf.result.items,
      leaf_last _ memory leaves _ _ _ (listed leaves) c.page_of-leaf.result (λ chain. c.page_of-leaf.ensures.makes memory chain has) c.page_of-leaf.ensures.ruled (sym c.right.ensures ∙ c.in-None.is),
      omega (arith, more),
    )

pub loop-preserved : goal.loop-preserved
loop-preserved g c = record {
  listed = λ memory has.
      let (pairs, listed, counted) = c.loop.invariant.listed memory has in
      let more = more_pairs pairs counted c.count_values-count.ensures.values c.items.ensures in (
        pairs ++ pairs_of c.page_of-leaf.result.items,
        (λ leaves. leaf_more _ memory leaves _ _ _ (listed leaves) c.page_of-leaf.result (λ chain. c.page_of-leaf.ensures.makes memory chain has)
            c.page_of-leaf.ensures.ruled _ (sym c.right.ensures ∙ c.in-Some.is)),
        omega (arith, more),
      );
  few = omega (arith, c.loop.invariant.few, c.count_values-count.ensures.few);
}

pub unreachable-requires : goal.unreachable-requires
unreachable-requires g c =
    let (memory, has, leaves) = c.requires.stand in
    let (pairs, listed, counted) = c.loop.invariant.listed memory has in
    let below = is_more _ memory leaves _ _ _ (listed leaves) in omega (arith, below, c.loop-test.false)
