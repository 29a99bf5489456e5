use Rattle.std.proofs.lemmas.List.{take_all}
use Rattle.race.specs.Results.{job_reply_text}
use Rattle.byte_streams.proofs.Showing.{flat_more}
use Rattle.race.proofs.printed.show_replies.Goals as goal

pub loop-reply-init : goal.loop-reply-init
loop-reply-init g c = c.outputs_add_up.ensures.none _

pub loop-reply-preserved : goal.loop-reply-preserved
loop-reply-preserved g c =
    rw (flat_more (job_reply_text c.args.job) c.args.replies.now c.loop-reply.reply-index c.reply-item.result c.loop-reply-test.true c.reply-item.is)
    (c.outputs_add_up.ensures.both _ _ _ _ _ c.loop-reply.invariant c.show_job_reply.ensures)

pub returns : goal.returns
returns g c = rw (take_all c.loop-reply.reply-index c.args.replies.now c.loop-reply-test.false) at c.loop-reply.invariant
