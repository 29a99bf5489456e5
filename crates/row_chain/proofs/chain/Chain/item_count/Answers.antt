use Rattle.row_chain.proofs.Words.{◌≡◌, ◌+◌, drop, refl, sym, subst, ◌∙◌, arith, IsFitted, page_of, bound_under, count_under, contents}
use Rattle.std.proofs.Common.{[], None}
use Rattle.row_chain.proofs.CountLaws.{count_all, unchanged}
use Rattle.row_chain.proofs.Standing.{length-contents}
use Rattle.row_chain.proofs.Places.{behind, fitted_from, none_there, rest_there}
use Rattle.row_chain.proofs.chain.Chain.item_count.Goals as goal

pub loop-place-init : goal.loop-place-init
loop-place-init g c =
    let chain = c.args.self.now.records in
    let all_rows = length-contents c.as_read-records.result.now chain c.as_read-records.ensures.records in
    let short = c.keeps_rules.ensures.short in
    record {
      same = refl;
      short = omega (arith, all_rows, short);
      more = omega arith;
      fewer = omega arith;
      count = λ items rest has rest_has.
          let same : count_under None items ≡ count_under None rest = unchanged None chain chain items rest (λ q. refl) has (rw (← c.as_read-records.ensures.records) rest_has) in
          let all = count_all items in
          omega (arith, same, all);
    }

pub change-came-requires-clause-fitted : goal.change-came-requires-clause-fitted
change-came-requires-clause-fitted g c =
    let rows = c.as_read-records.result.now in
    let place = c.loop-place.place in
    let fitted : IsFitted (contents rows) = subst IsFitted (sym c.as_read-records.ensures.records) c.keeps_rules.ensures.fitted in
    subst IsFitted (behind rows place c.index-records-place.result c.loop-place-test.true c.index-records-place.is) (fitted_from rows place fitted c.loop-place-test.true)

pub loop-place-preserved : goal.loop-place-preserved
loop-place-preserved g c =
    let v = c.loop-place.invariant in
    let rows = c.as_read-records.result.now in
    let row = c.index-records-place.result in
    let place = c.loop-place.place in
    let fitted : IsFitted (contents rows) = subst IsFitted (sym c.as_read-records.ensures.records) c.keeps_rules.ensures.fitted in
    let made = page_of (contents (drop place rows)) (fitted_from rows place fitted c.loop-place-test.true) in
    let here = behind rows place row c.loop-place-test.true c.index-records-place.is in
    let more = v.more in
    let fewer = v.fewer in
    let came = c.change-came.ensures.more in
    let went = c.change-came.ensures.fewer in
    record {
      same = c.bound_under-bound.ensures.same ∙ c.change-came.ensures.same ∙ v.same;
      short = v.short;
      more = omega (arith, more, came);
      fewer = omega (arith, fewer, went);
      count = λ items rest has rest_has.
          let before = v.count items made.0.items has made.1.items in
          let step = c.change-came.ensures.change made.0.items rest (rw (← here) made.1.items) (rw (rest_there rows place) rest_has) in
          let bounded = subst (λ b. count_under b made.0.items + c.change-came.result.1 ≡ count_under (bound_under row.content b) rest + c.change-came.result.0) c.as_ref.ensures.value step in
          rw c.bound_under-bound.ensures.bound (omega (arith, before, bounded));
    }

pub overflow_sub-result : goal.overflow_sub-result
overflow_sub-result g c =
    let made = page_of c.args.self.now.records c.keeps_rules.ensures.fitted in
    let all = c.loop-place.invariant.count made.0.items [] made.1.items (none_there c.as_read-records.result.now c.loop-place.place c.loop-place-test.false) in
    omega (arith, all)

pub returns-clause-count : goal.returns-clause-count
returns-clause-count g c items has = let all = c.loop-place.invariant.count items [] has (none_there c.as_read-records.result.now c.loop-place.place c.loop-place-test.false) in omega (arith, all)
