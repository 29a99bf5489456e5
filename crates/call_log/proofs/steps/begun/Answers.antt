use Rattle.call_log.proofs.Turning.{begins}
use Rattle.call_log.proofs.steps.begun.Goals as goal

pub compare_exchange-requires : goal.compare_exchange-requires
compare_exchange-requires g c = (
  c.requires.table,
  c.requires.word,
  begins g.P.Course.ends c.args.log.now.key.value.items c.args.log.now.table_id.slots c.args.hand.now.id c.args.hand.now.me c.args.slot c.requires.there c.requires.may,
)
