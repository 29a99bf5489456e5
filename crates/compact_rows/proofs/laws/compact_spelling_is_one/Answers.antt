use Rattle.compact_rows.proofs.Rows.{one_record}
use Rattle.compact_rows.proofs.laws.compact_spelling_is_one.Goals as goal

pub returns : goal.returns
returns c = one_record
