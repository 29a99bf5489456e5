use Rattle.std.proofs.Common.{sym, Some, ap, ◌∙◌}
use Rattle.row_search.proofs.SaidLaws.{right_some}
use Rattle.row_search.proofs.Bounds.{right_none}
use Rattle.row_search.proofs.row_at.RowAt.right.Goals as goal

pub returns-then-page-eq0-clause-right : goal.returns-then-page-eq0-clause-right
returns-then-page-eq0-clause-right g c = right_none c.args.self.now.content c.keeps_spelling.ensures.spellable (c.ends.ensures.said c.if-not-ends.false) (sym c.page-page.ensures.page
    ∙ c.if-page-eq0.true)

pub returns-clause-right : goal.returns-clause-right
returns-clause-right g c = ap Some c.page-page.ensures.page ∙ right_some c.args.self.now.content (c.ends.ensures.said c.if-not-ends.false) (λ e. c.if-page-eq0.false (c.page-page.ensures.page ∙ e))
