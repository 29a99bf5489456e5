use Rattle.compact_rows.proofs.Words.{◌≡◌, ◌∙◌, sym, ap, Record, compact_words, IsCompact}
use Rattle.record_slots.specs.Spells.{IsSpelling}
use Rattle.record_slots.proofs.Refusals.{refused}
use Rattle.compact_rows.proofs.Rows.{row_seen, spelling}
use Rattle.compact_rows.proofs.read.from_compact.Goals as goal

pub returns-in_err-content : goal.returns-in_err-content
returns-in_err-content c =
    let words = c.args.words.now in
    refused (λ (content : Record). IsCompact content words) c.from_residual.result c.from_residual.ensures.0 (λ content h.
    let same = row_seen content words c.spread.result h c.spread.ensures.long c.spread.ensures.words in
    c.in_err-content.ensures content (rw same (spelling content words h)))

pub returns-else-are_same : goal.returns-else-are_same
returns-else-are_same c content h =
    let words = c.args.words.now in
    let same = row_seen content words c.spread.result h c.spread.ensures.long c.spread.ensures.words in
    let spelled : IsSpelling content c.spread.result = rw same (spelling content words h) in
    let one : content ≡ c.in_ok-content.content = c.spelling_is_one.ensures content c.in_ok-content.content c.spread.result spelled c.in_ok-content.ensures in
    let wrote : c.words.result.now ≡ words = c.words.ensures.words ∙ c.to_compact-written.ensures.words ∙ ap compact_words (sym one) ∙ h.are in
    c.if-are_same.ensures wrote
