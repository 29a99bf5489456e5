use Rattle.std.proofs.Common.{take}
use Rattle.std.specs.List.{flat_map}
use Rattle.byte_streams.specs.Output.{Prints}
use Rattle.race.specs.Results.{job_reply_text}
use Rattle.race.proofs.printed.show_replies.Given as goal

abbrev pub invariant-loop-reply : goal.invariant-loop-reply
invariant-loop-reply g l =
    Prints (g.O.Output.state l.initial.out) (g.O.Output.state l.out) (flat_map (job_reply_text l.job) (take l.reply-index l.replies))
