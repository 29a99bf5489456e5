use Rattle.std.proofs.lemmas.List.{take_all}
use Rattle.race.specs.Results.{result_text}
use Rattle.byte_streams.proofs.Showing.{flat_more}
use Rattle.race.proofs.printed.show_results.Goals as goal

pub loop-result-init : goal.loop-result-init
loop-result-init g c = c.outputs_add_up.ensures.none _

pub loop-result-preserved : goal.loop-result-preserved
loop-result-preserved g c =
    rw (flat_more result_text c.args.results.now c.loop-result.result-index c.result-item.result c.loop-result-test.true c.result-item.is)
    (c.outputs_add_up.ensures.both _ _ _ _ _ c.loop-result.invariant (rw c.as_slice.ensures.value at c.show_replies.ensures))

pub returns : goal.returns
returns g c = rw (take_all c.loop-result.result-index c.args.results.now c.loop-result-test.false) at c.loop-result.invariant
