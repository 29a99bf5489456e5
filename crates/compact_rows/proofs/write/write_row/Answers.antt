use Rattle.compact_rows.proofs.Words.{◌≡◌, ◌+◌, ◌*◌, ◌++◌, ℕ, List, ◌∷◌, [], ◌∙◌, sym, ap, length, arith, length-append, Item, bound_text, codes, first_word, heads, packed, second_word, texts}
use Rattle.compact_rows.proofs.Words.{texts_at, words_for, Row}
use Rattle.std.proofs.Common.{Option}
use Rattle.std.specs.Prelude.{option_copied}
use Rattle.compact_rows.proofs.Sizes.{row_long}
use Rattle.compact_rows.proofs.Texts.{packed_long}
use Rattle.compact_rows.proofs.Written.{written}
use Rattle.compact_rows.proofs.write.write_row.Goals as goal

abbrev of_parts : ℕ → ℕ → ℕ → ℕ → List ℕ → Option (List ℕ) → List Item → Row
of_parts kind level next page first second items =
    record { kind = kind; level = level; count = length items; next = next; page = page; first = first; second = second }

-- how long the row is once its two words, its heads and its codes are written
up_to_codes : {row one two : List ℕ} {three four : ℕ} (first second many : ℕ) → row ≡ [] → one ≡ row ++ first ∷ [] → two ≡ one ++ second ∷ []
    → three ≡ length two + many → four ≡ three + many → four ≡ 2 + 2 * many
up_to_codes {row = row} {one = one} first second many empty is next after behind =
    let none = ap length empty in
    let more = ap length is ∙ length-append row (first ∷ []) in
    let two = ap length next ∙ length-append one (second ∷ []) in
    omega arith

pub push_codes-requires-clause-low : goal.push_codes-requires-clause-low
push_codes-requires-clause-low c =
    let a = c.args in
    let n = a.numbers in
    let items = a.items.now in
    let whole = row_long (of_parts n.kind n.level n.next n.page a.first.now (option_copied a.second) items) items in
    let first : c.words_for.result ≡ length (packed a.first.now) =
    c.words_for.ensures.words ∙ ap (λ bytes. words_for (length bytes)) c.key_bytes-bytes.ensures.bytes ∙ sym (packed_long a.first.now) in
    let second = c.bound_size.ensures.size in
    let room = c.requires.room in
    omega arith

pub push_words-requires-clause-room : goal.push_words-requires-clause-room
push_words-requires-clause-room c =
    let a = c.args in
    let n = a.numbers in
    let items = a.items.now in
    let whole = row_long (of_parts n.kind n.level n.next n.page a.first.now (option_copied a.second) items) items in
    let first = ap (λ bytes. length (packed bytes)) c.key_bytes-bytes.ensures.bytes in
    let before = up_to_codes c.first_word.result c.second_word.result (length items) c.requires.empty c.push.ensures c.push-2.ensures
    c.push_heads.ensures.count c.push_codes.ensures.count in
    let room = c.requires.room in
    omega arith

pub push_bound-requires : goal.push_bound-requires
push_bound-requires c =
    let a = c.args in
    let n = a.numbers in
    let items = a.items.now in
    let whole = row_long (of_parts n.kind n.level n.next n.page a.first.now (option_copied a.second) items) items in
    let first = ap (λ bytes. length (packed bytes)) c.key_bytes-bytes.ensures.bytes in
    let before = up_to_codes c.first_word.result c.second_word.result (length items) c.requires.empty c.push.ensures c.push-2.ensures
    c.push_heads.ensures.count c.push_codes.ensures.count in
    let words = ap length c.push_words.ensures ∙ length-append c.push_codes.new.row (packed c.key_bytes-bytes.result.now) in
    let room = c.requires.room in
    omega arith

pub push_texts-requires : goal.push_texts-requires
push_texts-requires c =
    let a = c.args in
    let n = a.numbers in
    let items = a.items.now in
    let whole = row_long (of_parts n.kind n.level n.next n.page a.first.now (option_copied a.second) items) items in
    let first = ap (λ bytes. length (packed bytes)) c.key_bytes-bytes.ensures.bytes in
    let before = up_to_codes c.first_word.result c.second_word.result (length items) c.requires.empty c.push.ensures c.push-2.ensures
    c.push_heads.ensures.count c.push_codes.ensures.count in
    let words = ap length c.push_words.ensures ∙ length-append c.push_codes.new.row (packed c.key_bytes-bytes.result.now) in
    let bound = ap length c.push_bound.ensures.words ∙ length-append c.push_words.new.row (bound_text (option_copied a.second)) in
    let room = c.requires.room in
    omega arith

pub returns-clause-words : goal.returns-clause-words
returns-clause-words c =
    let a = c.args in
    let n = a.numbers in
    let items = a.items.now in
    let key = a.first.now in
    let second = option_copied a.second in
    let row : Row = of_parts n.kind n.level n.next n.page key second items in
    let at = 2 + 2 * length items + (c.words_for.result + c.bound_size.result) in
    let first : c.words_for.result ≡ length (packed key) =
    c.words_for.ensures.words ∙ ap (λ bytes. words_for (length bytes)) c.key_bytes-bytes.ensures.bytes ∙ sym (packed_long key) in
    let place : at ≡ texts_at row = λ i. 2 + 2 * length items + (first i + c.bound_size.ensures.size i) in
    let one : c.first_word.result ≡ first_word row = c.first_word.ensures in
    let two : c.second_word.result ≡ second_word row =
    c.second_word.ensures ∙ (λ i. n.page + 4294967296 * length (c.key_bytes-bytes.ensures.bytes i) + 1099511627776 * c.bound_length.ensures.length i) in
    let field = c.push_words.ensures ∙ ap (λ bytes. c.push_codes.new.row ++ packed bytes) c.key_bytes-bytes.ensures.bytes in
    written c.first_word.result c.second_word.result at key second items a.row.now c.push.new.self c.push-2.new.self c.push_heads.new.row c.push_codes.new.row c.push_words.new.row
    c.push_bound.new.row c.push_texts.new.row c.requires.empty c.push.ensures c.push-2.ensures c.push_heads.ensures.words c.push_codes.ensures.words field c.push_bound.ensures.words
    c.push_texts.ensures.words
    ∙ (λ i. one i ∷ two i ∷ (heads items ++ (codes (place i) items ++ (packed key ++ (bound_text second ++ texts items)))))
