use Rattle.std.proofs.Common.{◌+◌, drop}
use Rattle.row_search.specs.TextsOf.{length_at}
use Rattle.row_search.specs.Reading.{text_in}
use Rattle.row_search.proofs.Words.{row_words_of}
use Rattle.row_search.proofs.key_words.KeyWords.at.Goals as goal

pub text-requires-clause-text : goal.text-requires-clause-text
text-requires-clause-text g c = (text_in c.args.count (drop (length_at c.args.text + 1) (row_words_of c.args.row.now)), c.requires.text)
