use Rattle.std.proofs.Common.{◌*◌, arith}
use Rattle.tree_words.proofs.RowWidths.{one_width}
use Rattle.tree_words.proofs.examples.steps_have_words.Goals as goal

pub returns-clause-slot : goal.returns-clause-slot
returns-clause-slot c limits small rows = let is = (one_width limits small limits.rows).0 in omega (arith, is, rows)
