use Rattle.std.proofs.Common.{get_or}
use Rattle.row_search.proofs.Words.{items_said}
use Rattle.row_search.proofs.row_at.RowAt.compare_said.Goals as goal

pub returns-clause-compared : goal.returns-clause-compared
returns-clause-compared g c d = c.compare_text.ensures.compared (get_or (items_said c.args.self.now.content) c.args.place d).key (c.said_at-text.ensures.text d)
