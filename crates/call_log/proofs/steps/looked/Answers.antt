use Rattle.std.proofs.Common.{refl}
use Rattle.call_log.proofs.Roster.{looks}
use Rattle.call_log.proofs.steps.looked.Goals as goal

pub load_new_seat-hand-requires : goal.load_new_seat-hand-requires
load_new_seat-hand-requires g c = (c.requires.word, looks g.P.Course.ends c.args.log.now.key.value.items c.args.log.now.table_id.slots)

pub returns-clause-looked : goal.returns-clause-looked
returns-clause-looked g c = c.load_new_seat-hand.ensures.2 c.args.log.now.key.value.items refl
