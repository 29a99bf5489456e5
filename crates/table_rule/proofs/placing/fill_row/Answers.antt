use Rattle.table_rule.proofs.Words.{List, add-one, arith, few_words, get_or, length, length-take-le, row_few, row_within, seen_of, tail_from, take, ℕ, [], ◌++◌}
use Rattle.table_rule.proofs.Words.{◌+◌, ◌∙◌, ◌∷◌, ◌≡◌}
use Rattle.std.proofs.Math.Seq.{take-suc}
use Rattle.table_rule.proofs.UsedWords.{over_few, stored_some, tail_length}
use Rattle.table_rule.proofs.Filled.{fills_at, next_in_tail}
use Rattle.table_rule.proofs.placing.fill_row.Goals as goal

pub store-requires : goal.store-requires
store-requires g c =
    let placed = c.args.placed.now in
    let v = c.loop-i.invariant in
    let few = over_few c.args.limits.now c.args.first placed.content.now placed.spelt.now c.requires.spelt placed.row c.requires.fits c.requires.room in
    let over = c.words_over-behind.ensures in
    let test = c.loop-i-test.true in
    let written : List ℕ = take c.loop-i.i (tail_from placed.spelt.now) in
    let k : length written ≡ c.loop-i.i = length-take-le c.loop-i.i (tail_from placed.spelt.now) (omega (arith, few.1, over, test)) in
    let base = c.row-base.ensures in
    let wide = c.requires.table.wide in
    let inside = row_within c.args.limits.now placed.row c.requires.range in
    let width = few_words c.args.limits.now placed.row in (
      v.table ∙ c.requires.table.same,
      omega (arith, c.requires.range, wide, base, few.0, over, test, inside, width),
      fills_at g.P.Law.law _ c.args.limits.now c.requires.table.own c.requires.law _ _ c.args.actor _ placed.row c.args.first written _
          (seen_of c.args.seat.now.me) v.seen c.requires.range v.at c.requires.owned _ (omega (arith, base, k)) (omega (arith, few.0, over, test, k)),
    )

pub loop-i-preserved : goal.loop-i-preserved
loop-i-preserved g c =
    let placed = c.args.placed.now in
    let v = c.loop-i.invariant in
    let few = over_few c.args.limits.now c.args.first placed.content.now placed.spelt.now c.requires.spelt placed.row c.requires.fits c.requires.room in
    let over = c.words_over-behind.ensures in
    let test = c.loop-i-test.true in
    let written : List ℕ = take c.loop-i.i (tail_from placed.spelt.now) in
    let told = c.store.ensures.2 c.args.limits.now c.args.actor placed.row c.args.first written v.at in
    let more : take (c.loop-i.i + 1) (tail_from placed.spelt.now) ≡ written ++ get_or placed.spelt.now (c.loop-i.i + 1) 0 ∷ [] =
    rw (next_in_tail placed.spelt.now c.loop-i.i, add-one c.loop-i.i)
    (take-suc (tail_from placed.spelt.now) c.loop-i.i 0 (omega (arith, few.1, over, test))) in
    record {
      within = omega (arith, c.loop-i-test.true);
      table = c.store.ensures.0 ∙ v.table;
      seen = told.1 ∙ v.seen;
      at = rw more told.0;
    }

pub words_over-behind-requires : goal.words_over-behind-requires
words_over-behind-requires g c =
    let placed = c.args.placed.now in
    stored_some c.args.limits.now c.args.first placed.content.now placed.spelt.now c.requires.spelt

pub bounds-placed-i : goal.bounds-placed-i
bounds-placed-i g c =
    let placed = c.args.placed.now in
    let few = over_few c.args.limits.now c.args.first placed.content.now placed.spelt.now c.requires.spelt placed.row c.requires.fits c.requires.room in
    let over = c.words_over-behind.ensures in
    let test = c.loop-i-test.true in
    let tail = tail_length placed.spelt.now in
    omega arith

pub overflow_add-base : goal.overflow_add-base
overflow_add-base g c =
    let placed = c.args.placed.now in
    let few = over_few c.args.limits.now c.args.first placed.content.now placed.spelt.now c.requires.spelt placed.row c.requires.fits c.requires.room in
    let width = few_words c.args.limits.now placed.row in
    let place = row_few c.args.limits.now placed.row c.requires.range in
    let over = c.words_over-behind.ensures in
    let test = c.loop-i-test.true in
    let base = c.row-base.ensures in
    omega (arith, place, base, few.0, over, test, width)

pub overflow_add-base-in-loop-i : goal.overflow_add-base-in-loop-i
overflow_add-base-in-loop-i g c =
    let placed = c.args.placed.now in
    let few = over_few c.args.limits.now c.args.first placed.content.now placed.spelt.now c.requires.spelt placed.row c.requires.fits c.requires.room in
    let width = few_words c.args.limits.now placed.row in
    let place = row_few c.args.limits.now placed.row c.requires.range in
    let over = c.words_over-behind.ensures in
    let test = c.loop-i-test.true in
    let base = c.row-base.ensures in
    omega (arith, place, base, few.0, over, test, width)
