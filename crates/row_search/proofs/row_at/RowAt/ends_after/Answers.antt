use Rattle.std.proofs.Common.{sym}
use Rattle.row_search.proofs.Ends.{below_last}
use Rattle.row_search.proofs.row_at.RowAt.ends_after.Goals as goal

pub returns-then-is_below_last-clause-ends : goal.returns-then-is_below_last-clause-ends
returns-then-is_below_last-clause-ends g c =
    sym (below_last c.args.self.now.content c.keeps_spelling.ensures.spellable c.args.key.now c.is_below_last.result c.is_below_last.ensures.none c.is_below_last.ensures.below
    c.if-is_below_last.true)
