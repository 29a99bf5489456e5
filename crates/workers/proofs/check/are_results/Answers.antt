use Rattle.workers.proofs.Words.{arith, slice_get_below, sym}
use Rattle.workers.proofs.Looked.{one_looked, one_wrong}
use Rattle.workers.proofs.check.are_results.Goals as goal

pub returns-then-jobs-results : goal.returns-then-jobs-results
returns-then-jobs-results g c = λ h. c.if-jobs-results.true (sym h.count)

pub loop-place-init : goal.loop-place-init
loop-place-init g c = λ n job given below at at_given. absurd (omega (arith, below))

pub loop-place-preserved : goal.loop-place-preserved
loop-place-preserved g c =
    one_looked c.args.jobs.now c.args.results.now c.loop-place.place c.index-jobs-place.result c.index-results-place.result c.index-jobs-place.is
    c.index-results-place.is c.if-not-is_result.ensures c.loop-place.invariant

pub returns-then-not-is_result : goal.returns-then-not-is_result
returns-then-not-is_result g c =
    one_wrong c.args.jobs.now c.args.results.now c.loop-place.place c.index-jobs-place.result c.index-results-place.result c.index-jobs-place.is
    c.index-results-place.is c.loop-place-test.true c.if-not-is_result.ensures

pub returns : goal.returns
returns g c =
    let all = c.loop-place-test.false in record {
      count = sym c.if-jobs-results.false;
      each = λ n job given at at_given. let below = slice_get_below c.args.jobs.now n job at in c.loop-place.invariant n job given (omega (arith, below, all)) at at_given;
    }
