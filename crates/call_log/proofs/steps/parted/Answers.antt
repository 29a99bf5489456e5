use Rattle.call_log.proofs.Roster.{parts}
use Rattle.call_log.proofs.steps.parted.Goals as goal

pub split_seat-requires : goal.split_seat-requires
split_seat-requires g c = (c.requires.table, c.requires.word, parts g.P.Course.ends c.args.log.now.key.value.items c.args.hand.now.id c.args.hand.now.me.0)
