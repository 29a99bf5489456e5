use Rattle.std.proofs.Common.{rules, []}
use Rattle.table_rule.proofs.Roster.{blanks}
use Rattle.table_rule.proofs.seats.blank.Goals as goal

pub load_new_seat-requires : goal.load_new_seat-requires
load_new_seat-requires g c = (search rules, blanks c.args.words.now.key (g.P.Law.law c.args.words.now.key) _ _ ([], []))
