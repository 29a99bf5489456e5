use Rattle.row_search.proofs.Words.{Record, IsSpelling}
use Rattle.record_slots.proofs.SpellingLaws.{spelling_one}
use Rattle.row_search.proofs.Found.{unwrapped}
use Rattle.row_search.proofs.row_at.RowAt.record.Goals as goal

pub returns-clause-record : goal.returns-clause-record
returns-clause-record g c =
    let words = c.words.result in
    spelling_one c.unwrap.result c.args.self.now.content words
    (unwrapped (λ (content : Record). IsSpelling content words) c.read_words.result c.unwrap.result c.unwrap.ensures c.read_words.ensures)
    (rw c.words.ensures.words c.keeps_spelling.ensures)
