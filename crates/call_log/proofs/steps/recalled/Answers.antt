use Rattle.call_log.proofs.Turning.{recalls}
use Rattle.call_log.proofs.steps.recalled.Goals as goal

pub load-requires : goal.load-requires
load-requires g c = (c.requires.table, c.requires.word, recalls g.P.Course.ends c.args.log.now.key.value.items c.args.log.now.table_id.slots c.args.hand.now.id c.args.hand.now.me c.args.slot)
