-- Rows, and the words that they begin with.
use Rattle.std.proofs.Common.{◌≡◌, ◌≤◌, ◌-◌, ◌++◌, ℕ, zero, suc, List, [], ◌∷◌, get_or, length, replicate, refl, sym, ap, subst, ◌∙◌, arith, length-append}
use Rattle.std.proofs.lemmas.List.{length-replicate}
use Rattle.deltas.specs.declared.record.Record.{Record}
use Rattle.record_slots.specs.Layout.{row_size}
use Rattle.record_slots.specs.Spelling.{words_of}
use Rattle.record_slots.specs.Spells.{IsSpelling}
use Rattle.record_slots.proofs.SpellingLaws.{spelling_length}
use Rattle.row_search.proofs.ReadingLaws.{kept, reading}
use Rattle.core_memory.specs.Shared.{record_of, whole}

-- words that spell a record with zeros behind them are few
pub few : (words : List ℕ) (content : Record) → IsSpelling content (whole words) → length words ≤ row_size
few words content is =
    let all = spelling_length content (whole words) is in
    let parts = length-append words (replicate (row_size - length words) 0) in
    let zeros = length-replicate {A = ℕ} (row_size - length words) 0 in
    omega (arith, all, parts, zeros)

-- the words of a row share the record that it spells
pub shares : (row words : List ℕ) (content : Record) → whole words ≡ row → IsSpelling content row → (record_of words ≡ content) × IsSpelling (record_of words) (whole words)
shares row words content same is =
    let spelt : IsSpelling content (whole words) = subst (IsSpelling content) (sym same) is in
    (reading (whole words) content spelt, kept (whole words) content spelt)

zeros_behind : (words : List ℕ) (n at : ℕ) → let none : ℕ = 0 in get_or (words ++ replicate n none) at none ≡ get_or words at none
zeros_behind [] zero at = refl
zeros_behind [] (suc n) zero = refl
zeros_behind [] (suc n) (suc at) = zeros_behind [] n at
zeros_behind (x ∷ xs) n zero = refl
zeros_behind (x ∷ xs) n (suc at) = zeros_behind xs n at

-- a word of the row that the words begin
pub word_of_whole : (words : List ℕ) (content : Record) (at : ℕ) → record_of words ≡ content → IsSpelling (record_of words) (whole words) → get_or words at 0 ≡ get_or (words_of content) at 0
word_of_whole words content at is spelled =
    sym (zeros_behind words (row_size - length words) at) ∙ ap (λ (row : List ℕ). get_or row at 0) (sym spelled.are) ∙ ap (λ (r : Record). get_or (words_of r) at 0) is

none_past : (words : List ℕ) (at : ℕ) → length words ≤ at → let none : ℕ = 0 in none ≡ get_or words at none
none_past [] at past = refl
none_past (x ∷ xs) zero past = absurd (omega arith)
none_past (x ∷ xs) (suc at) past = none_past xs at (omega arith)

-- behind them its words are 0
pub word_past : (words : List ℕ) (content : Record) (at : ℕ) → record_of words ≡ content → IsSpelling (record_of words) (whole words) → length words ≤ at → let none : ℕ = 0
    in none ≡ get_or (words_of content) at none
word_past words content at is spelled past = none_past words at past ∙ word_of_whole words content at is spelled

-- what spells a record spells it by the record's own words
pub spelled_by : (words : List ℕ) (content : Record) → record_of words ≡ content → IsSpelling (record_of words) (whole words) → IsSpelling content (words_of content)
spelled_by words content is spelled = subst (λ (r : Record). IsSpelling r (words_of r)) is (subst (IsSpelling (record_of words)) (sym spelled.are) spelled)
