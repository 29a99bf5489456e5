use Rattle.table_rule.proofs.Watched.{watches_at}
use Rattle.table_rule.proofs.watching.watch.Goals as goal

pub load-requires : goal.load-requires
load-requires g c =
    watches_at c.steps_change_one_word.ensures.changes c.steps_change_one_word.ensures.places g.P.Law.law c.args.limits.now _ _ _ c.requires.table _ _ _
    c.args.actor _ _ c.requires.actor c.requires.range c.word_place.ensures

pub returns-clause-seat : goal.returns-clause-seat
returns-clause-seat g c = (c.load.ensures.2 c.args.limits.now c.args.actor _ c.requires.seat c.requires.actor c.requires.range c.requires.reads c.word_place.ensures).0

pub returns-clause-watched : goal.returns-clause-watched
returns-clause-watched g c = (c.load.ensures.2 c.args.limits.now c.args.actor _ c.requires.seat c.requires.actor c.requires.range c.requires.reads c.word_place.ensures).1
