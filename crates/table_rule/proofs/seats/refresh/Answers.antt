use Rattle.std.proofs.Common.{arith}
use Rattle.table_rule.proofs.Roster.{refreshes_of}
use Rattle.table_rule.proofs.seats.refresh.Goals as goal

pub load-requires : goal.load-requires
load-requires g c = let w = c.requires.table.wide in (c.requires.table.same, omega arith, refreshes_of c.args.limits.now c.args.words.now.key g.P.Law.law c.requires.table.own _ _ _ _)

pub returns-clause-saw : goal.returns-clause-saw
returns-clause-saw g c = let h = c.requires.some in rw (← h.3) (c.load.ensures.2 h.0 h.1 h.2)
