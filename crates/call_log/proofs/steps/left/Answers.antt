use Rattle.call_log.proofs.Turning.{leaves}
use Rattle.call_log.proofs.steps.left.Goals as goal

pub store-requires : goal.store-requires
store-requires g c = (
  c.requires.table,
  c.requires.word,
  leaves g.P.Course.ends c.args.log.now.key.value.items c.args.log.now.table_id.slots c.args.hand.now.id c.args.hand.now.me c.args.slot c.requires.there c.requires.can,
)
