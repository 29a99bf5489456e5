use Rattle.row_chain.proofs.Words.{◌≡◌, ◌<◌, ◌-◌, suc, ◌∷◌, length, drop, drop-cons, get_or, refl, sym, subst, ◌∙◌, arith, Base, Makes, ruled}
use Rattle.traces.proofs.FittedLaws.{Makes-next}
use Rattle.row_chain.proofs.Making.{base_makes, fits_above}
use Rattle.row_chain.proofs.Standing.{content_there}
use Rattle.row_chain.proofs.chain.Chain.page_in.Goals as goal

pub loop-place-init : goal.loop-place-init
loop-place-init g c =
    let base = c.base_in.new.page in
    let place = c.deltas-place.result in
    record {
      same = refl;
      makes = base_makes c.args.self.now.records place base c.keeps_rules.ensures.fitted (omega (arith, c.deltas-place.ensures)) (c.base_in.ensures.base
          (Base base) place c.deltas-place.ensures);
    }

pub change-requires-clause-fits : goal.change-requires-clause-fits
change-requires-clause-fits g c =
    let records = c.args.self.now.records in
    let row = c.index-records-place.result in
    let place = c.loop-place.place in
    let within : place < length records = (let n = c.deltas-place.ensures in let p = c.loop-place.auto.place in omega (arith, n, p)) in
    let low : place - 1 < length records = omega (arith, within) in
    fits_above records place c.loop-place.page row.content c.keeps_rules.ensures.fitted c.loop-place-test.true within c.loop-place.invariant.makes
    (content_there c.as_read-records.result.now records (place - 1) row c.as_read-records.ensures.records c.index-records-place.is low)

pub loop-place-preserved : goal.loop-place-preserved
loop-place-preserved g c =
    let v = c.loop-place.invariant in
    let records = c.args.self.now.records in
    let row = c.index-records-place.result in
    let place = c.loop-place.place in
    let within : place < length records = (let n = c.deltas-place.ensures in let p = c.loop-place.auto.place in omega (arith, n, p)) in
    let low : place - 1 < length records = omega (arith, within) in
    let next : suc (place - 1) ≡ place = let some = c.loop-place-test.true in omega (arith, some) in
    let here : row.content ≡ get_or records (place - 1) row.content = content_there c.as_read-records.result.now records
    (place - 1) row c.as_read-records.ensures.records c.index-records-place.is low in
    let over : drop (place - 1) records ≡ row.content ∷ drop place records = drop-cons records (place - 1) row.content low ∙ (λ i. sym here i ∷ drop (next i) records) in
    record {
      same = c.change.ensures.same ∙ v.same;
      makes =
          rw over (Makes-next (drop place records) row.content c.loop-place.page c.change.new.page v.makes c.change.ensures.applies);
    }

pub returns-clause-ruled : goal.returns-clause-ruled
returns-clause-ruled g c =
    let records = c.args.self.now.records in
    let none : c.loop-place.place ≡ 0 = let end = c.loop-place-test.false in omega (arith, end) in
    ruled records c.loop-place.page c.keeps_rules.ensures.fitted (subst (λ n. Makes (drop n records) c.loop-place.page) none c.loop-place.invariant.makes)
