use Rattle.compact_rows.proofs.Rows.{word_seen}
use Rattle.compact_rows.proofs.laws.words_are_seen.Goals as goal

pub returns : goal.returns
returns c = word_seen
