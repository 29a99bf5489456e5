use Rattle.std.proofs.Common.{sym, ap, ◌∙◌}
use Rattle.row_search.proofs.Words.{not, is_gt, row_of}
use Rattle.row_search.proofs.RowTexts.{below_turned}
use Rattle.row_search.proofs.row_at.RowAt.begins_by.Goals as goal

pub returns-clause-begins : goal.returns-clause-begins
returns-clause-begins g c = ap not (c.is_gt.ensures ∙ ap is_gt c.compare_first.ensures.compared ∙ sym (below_turned c.args.key.now (row_of c.args.self.now.content).first))
