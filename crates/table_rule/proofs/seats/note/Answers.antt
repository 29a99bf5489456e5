use Rattle.std.proofs.Common.{arith}
use Rattle.table_rule.proofs.Roster.{notes}
use Rattle.table_rule.proofs.seats.note.Goals as goal

pub split_seat-requires : goal.split_seat-requires
split_seat-requires g c = let w = c.requires.table.wide in (c.requires.table.same, omega arith, notes c.args.words.now.key (g.P.Law.law c.args.words.now.key) _ _)
