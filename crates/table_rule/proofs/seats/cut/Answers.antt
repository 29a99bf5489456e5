use Rattle.std.proofs.Common.{arith}
use Rattle.table_rule.proofs.Roster.{splits, first_and_others}
use Rattle.table_rule.proofs.seats.cut.Goals as goal

pub split_seat-requires : goal.split_seat-requires
split_seat-requires g c =
    let w = c.requires.table.wide in
    (c.requires.table.same, omega arith, splits c.args.words.now.key (g.P.Law.law c.args.words.now.key) _ _ _ _ (first_and_others c.args.seat.now.me.0))
