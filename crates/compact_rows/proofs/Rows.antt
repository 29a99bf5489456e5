-- What is seen of a record's compact words, and that they are of one record.
use Rattle.compact_rows.proofs.Words.{◌≡◌, ◌<◌, ◌≤◌, ℕ, List, length, get_or, refl, sym, ap, ◌∙◌, arith, Record, items_of, row_of, words_of, counts, items_fit, parts_fit, seen, compact_words}
use Rattle.compact_rows.proofs.Words.{IsCompact}
use Rattle.std.proofs.lemmas.List.{ext_get_or}
use Rattle.deltas.specs.declared.record.Record.TheVariants.{Base}
use Rattle.record_slots.specs.Layout.{row_size}
use Rattle.record_slots.specs.Spells.{IsSpelling}
use Rattle.record_slots.proofs.RowLaws.{words_of_row}
use Rattle.record_slots.proofs.SpellingLaws.{spelling_length, spelling_one, spelling_there}
use Rattle.compact_rows.proofs.Parts.{seen_is}

same_words : (content : Record) → words_of_row (row_of content) (items_of content) ≡ words_of content
same_words (Base page) = refl
same_words content = refl

-- a row of today's form spells it, too
pub spelling : (content : Record) (words : List ℕ) → IsCompact content words → IsSpelling content (words_of content)
spelling content words h = spelling_there content h.spellable h.short

-- each word of the row of today's form is seen
pub word_seen : (content : Record) (words : List ℕ) → IsCompact content words → (at : ℕ) → at < row_size → seen words at ≡ get_or (words_of content) at 0
word_seen content words h at low =
    let room : length (compact_words content) ≤ 512 = rw (← h.are) at h.room in
    ap (λ (ws : List ℕ). seen ws at) (sym h.are)
    ∙ seen_is (row_of content) (items_of content) (parts_fit content h.spellable h.short) (counts content) (items_fit content h.spellable h.short) room at low
    ∙ ap (λ (ws : List ℕ). get_or ws at 0) (same_words content)

-- the words that are seen are those of the row
pub row_seen : (content : Record) (words row : List ℕ) → IsCompact content words → length row ≡ row_size → ((at : ℕ) → at < row_size → get_or row at 0 ≡ seen words at)
    → row ≡ words_of content
row_seen content words row h long are =
    let whole = spelling_length content (words_of content) (spelling content words h) in
    ext_get_or 0 row (words_of content) (long ∙ sym whole) (λ at within. let low : at < row_size = omega (arith, within, long) in are at low ∙ word_seen content words h at low)

-- words spell one record at most
pub one_record : (one other : Record) (words : List ℕ) → IsCompact one words → IsCompact other words → one ≡ other
one_record one other words h g =
    let whole = spelling_length one (words_of one) (spelling one words h) in
    let same : words_of one ≡ words_of other = row_seen other words (words_of one) g whole (λ at low. sym (word_seen one words h at low)) in
    spelling_one one other (words_of other) (rw same at (spelling one words h)) (spelling other words g)
