use Rattle.call_log.proofs.Turning.{ends_so}
use Rattle.call_log.proofs.steps.ended.Goals as goal

pub store-requires : goal.store-requires
store-requires g c = (
  c.requires.table,
  c.requires.word,
  ends_so g.P.Course.ends c.args.log.now.key.value.items c.args.log.now.table_id.slots c.args.hand.now.id c.args.hand.now.me c.args.slot c.requires.there c.requires.can,
)
