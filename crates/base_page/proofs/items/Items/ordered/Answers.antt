use Rattle.std.proofs.Common.{◌≡◌, ◌-◌, ◌<◌, suc, List, length, get_or, true, false, refl, sym, ap, ◌∙◌, arith}
use Rattle.base_page.specs.declared.item.Item.{Item}
use Rattle.std.specs.Ordering.{is_lt}
use Rattle.bw_model.specs.Bytes.{key_cmp, is_below}
use Rattle.base_page.proofs.OrderLaws.{IsAscending_in_order, less_next}
use Rattle.base_page.proofs.items.Items.ordered.Goals as goal

pub returns-then-not-is_lt : goal.returns-then-not-is_lt
returns-then-not-is_lt c are =
    let before = c.index-deref-place.result in
    let next = c.index-deref-place-in-loop-place.result in
    let within : suc (c.loop-place.place - 1) < length c.args.items.items = omega (arith, c.len-place-end.ensures.value, c.loop-place-test.true, c.loop-place.auto.place) in
    let at : suc (c.loop-place.place - 1) ≡ c.loop-place.place = omega (arith, c.loop-place.auto.place) in
    let first : before ≡ get_or c.args.items.items (c.loop-place.place - 1) before = c.index-deref-place.is ∙ ap (λ (xs : List Item). get_or xs (c.loop-place.place - 1) before) c.deref.ensures.0 in
    let second : next ≡ get_or c.args.items.items (suc (c.loop-place.place - 1)) next = c.index-deref-place-in-loop-place.is ∙ ap
    (λ (xs : List Item). get_or xs c.loop-place.place next) c.deref-in-loop-place.ensures.0 ∙ ap (λ k. get_or c.args.items.items k next) (sym at) in
    let less : is_below before.key next.key ≡ true = less_next c.args.items.items (c.loop-place.place - 1) before next are.ascending within first second in
    let order : c.cmp.result ≡ key_cmp before.key next.key = c.cmp.ensures ∙ (λ i. key_cmp (sym c.index-deref-place.is i).key (sym c.index-deref-place-in-loop-place.is i).key) in
    let turned : true ≡ false = sym less ∙ sym (ap is_lt order) ∙ sym c.is_lt.ensures ∙ c.if-not-is_lt.true in
    cc

pub invariant_of-result : goal.invariant_of-result
invariant_of-result c =
    record {
      few = omega (arith, c.len-place-end.ensures.fits, c.len-place-end.ensures.value);
      ascending = IsAscending_in_order c.args.items.items (λ k d under. c.loop-place.invariant k d (omega (arith, under, c.loop-place-test.false, c.len-place-end.ensures.value)));
    }

pub returns : goal.returns
returns c = (refl, invariant_of-result c)
