use Rattle.compact_rows.proofs.Words.{◌<◌, length, arith}
use Rattle.std.proofs.Common.{◌≢◌, get_or-set_other, get_or-set_same, below_more}
use Rattle.std.proofs.lemmas.List.{length-set}
use Rattle.compact_rows.proofs.read.spread.Goals as goal

pub loop-at-preserved : goal.loop-at-preserved
loop-at-preserved c =
    let v = c.loop-at.invariant in
    let long = v.long in
    let longer = length-set c.loop-at.row c.loop-at.at c.seen_in.result in
    record {
      long = omega arith;
      words = below_more _ _
          (λ k h. let ne : k ≢ c.loop-at.at = omega arith in rw get_or-set_other (v.words k h))
          (let lt : c.loop-at.at < length c.loop-at.row = omega (arith, c.loop-at-test.true) in rw get_or-set_same c.seen_in.ensures);
    }
