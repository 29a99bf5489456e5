use Rattle.std.proofs.Common.{arith}
use Rattle.table_rule.proofs.Roster.{joins}
use Rattle.table_rule.proofs.seats.join.Goals as goal

pub join_seat-requires : goal.join_seat-requires
join_seat-requires g c = let w = c.requires.table.wide in (c.requires.table.same, c.requires.other, c.requires.home, omega arith, joins c.args.words.now.key (g.P.Law.law c.args.words.now.key) _ _ _ _)
