use Rattle.row_chain.proofs.Words.{◌≡◌, ◌≤◌, length, drop, refl, sym, ap, subst, ◌∙◌, arith, items_of, IsFitted, page_of, PlacedChain, contents}
use Rattle.std.proofs.Common.{[], None, max}
use Rattle.std.proofs.Math.Nat.{max-le}
use Rattle.row_chain.proofs.CountLaws.{count_all, unchanged}
use Rattle.row_chain.proofs.MostItems.{few_more}
use Rattle.row_chain.proofs.Standing.{length-contents}
use Rattle.row_chain.proofs.Places.{behind, fitted_from, none_there, rest_there}
use Rattle.row_chain.proofs.chain.Chain.most_items.Goals as goal

pub loop-place-init : goal.loop-place-init
loop-place-init g c =
    let rows = c.as_slice-records.result.now in
    let chain = c.args.self.now.records in
    let same : contents rows ≡ chain = c.as_slice-records.ensures.records ∙ ap (λ (chain : PlacedChain). chain.records) c.self.view_is in
    let all_rows = length-contents rows chain same in
    let short = c.keeps_rules.ensures.short in
    record {
      short = omega (arith, all_rows, short);
      few = omega arith;
      most = λ items rest has rest_has.
          let equal = unchanged None chain chain items rest (λ q. refl) has (rw (← same) rest_has) in
          let all = count_all items in
          let all_rest = count_all rest in
          omega (arith, equal, all, all_rest);
    }

pub loop-place-preserved : goal.loop-place-preserved
loop-place-preserved g c =
    let v = c.loop-place.invariant in
    let rows = c.as_slice-records.result.now in
    let row = c.index-records-place.result in
    let place = c.loop-place.place in
    let within = c.loop-place-test.true in
    let same : contents rows ≡ c.args.self.now.records = c.as_slice-records.ensures.records ∙ ap (λ (chain : PlacedChain). chain.records) c.self.view_is in
    let fitted : IsFitted (contents rows) = subst IsFitted (sym same) c.keeps_rules.ensures.fitted in
    let from = fitted_from rows place fitted within in
    let here = behind rows place row within c.index-records-place.is in
    let made = page_of (contents (drop place rows)) from in
    let few = v.few in
    let own = c.item_count.ensures.few in
    let adds : c.max-most.result ≡ max (length (items_of row.content)) 1 = c.max-most.ensures ∙ ap (λ n. max n 1) c.item_count.ensures.count in
    let at_most : c.max-most.result ≤ 24 = rw c.max-most.ensures (max-le own (omega arith)) in
    record {
      short = v.short;
      few = omega (arith, few, at_most);
      most = λ items rest has rest_has.
          let before = v.most items made.0.items has made.1.items in
          let more = few_more row.content _ (subst IsFitted here from) made.0.items rest (rw (← here) made.1.items)
          (rw (rest_there rows place) rest_has) in
          omega (arith, before, more, adds);
    }

pub returns : goal.returns
returns g c items has = let all = c.loop-place.invariant.most items [] has (none_there c.as_slice-records.result.now c.loop-place.place c.loop-place-test.false) in omega (arith, all)
