use Rattle.std.proofs.Common.{arith, sym}
use Rattle.running_tree.proofs.Ascending.{adjacent_next, ascending, not_ascending}
use Rattle.running_tree.proofs.loading.keys_ascend.Goals as goal

pub loop-place-init : goal.loop-place-init
loop-place-init g = record { ascend = λ n d below. absurd (omega (arith, below)) }

pub loop-place-preserved : goal.loop-place-preserved
loop-place-preserved g = record {
  ascend = adjacent_next g.args.pairs.now g.loop-place.place _ _ g.cmp.result g.loop-place.auto.place g.loop-place-test.true g.cmp.ensures g.loop-place.invariant.ascend (sym g.if-not-is_lt.ensures);
}

pub returns-then-not-is_lt : goal.returns-then-not-is_lt
returns-then-not-is_lt g c = not_ascending g.args.pairs.now g.loop-place.place _ _ g.cmp.result g.loop-place.auto.place g.loop-place-test.true g.cmp.ensures g.if-not-is_lt.ensures c

pub returns : goal.returns
returns g = ascending g.args.pairs.now (λ n d below. g.loop-place.invariant.ascend n d (omega (arith, below, g.loop-place-test.false)))
