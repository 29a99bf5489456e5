use Rattle.std.proofs.Common.{◌-◌, arith, rules}
use Rattle.workers.proofs.Ascending.{not_ascending, one_more}
use Rattle.workers.proofs.check.are_ascending.Goals as goal

pub returns-then-jobs-place : goal.returns-then-jobs-place
returns-then-jobs-place c =
    not_ascending c.args.jobs.now (c.loop-place.place - 1) c.loop-place.place c.index-jobs-place.result c.index-jobs-place-in-loop-place.result (omega arith)
    c.loop-place-test.true c.index-jobs-place.is c.index-jobs-place-in-loop-place.is (let least = c.if-jobs-place.true in search rules)

pub loop-place-preserved : goal.loop-place-preserved
loop-place-preserved c =
    one_more c.args.jobs.now (c.loop-place.place - 1) c.loop-place.place c.index-jobs-place.result c.index-jobs-place-in-loop-place.result (omega arith)
    c.loop-place-test.true c.index-jobs-place.is c.index-jobs-place-in-loop-place.is (let less = c.if-jobs-place.false in search rules)
    c.loop-place.invariant
