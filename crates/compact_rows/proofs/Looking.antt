-- What is looked at of a text, as it is seen.
use Rattle.compact_rows.proofs.Words.{◌≡◌, ◌==◌, ◌<◌, ◌≤◌, ◌+◌, ◌*◌, ◌-◌, ◌/◌, ◌%◌, ℕ, zero, suc, List, length, get_or, refl, sym, ap, ◌∙◌, arith, if◌then◌else◌, ltb, le-ltb, lt-ltb, ne_eqb}
use Rattle.compact_rows.proofs.Words.{Record, item_size, items_at, items_of, words_of, content_unit, length_unit, code_at, code_number, code_tail, count_seen, first_seen, item_seen, items_seen}
use Rattle.compact_rows.proofs.Words.{level_seen, place_seen, second_seen, seen, text_seen, value_seen, compact_words, IsCompact}
use Rattle.record_slots.specs.Layout.{field_size, first_at, second_at}
use Rattle.row_search.specs.Begins.{Begins}
use Rattle.compact_rows.specs.Seen.{content_seen, key_seen}
use Rattle.compact_rows.proofs.Rows.{word_seen}
use Rattle.compact_rows.proofs.Within.{code_room, count_few, count_there}
use Rattle.compact_rows.proofs.Spreading.{at_first, at_items, at_second}
use Rattle.compact_rows.proofs.Texts.{if_false, if_true}

-- the count of items and the level, by any word that has them as the spelling's first word has them
pub counted : (first stored word : ℕ) → stored % 16777216 + 33554432 ≡ word → first % 16777216 ≡ word % 16777216 → first / 65536 % 256 ≡ stored / 65536 % 256
counted first stored word is same = omega arith

pub levelled : (first stored word : ℕ) → stored % 16777216 + 33554432 ≡ word → first % 16777216 ≡ word % 16777216 → first / 256 % 256 ≡ stored / 256 % 256
levelled first stored word is same = omega arith

module _ (words : List ℕ) (item : ℕ) (there : item < count_seen words) where
  abbrev head : ℕ
  head = get_or words (2 + item) 0

  abbrev code : ℕ
  code = get_or words (2 + count_seen words + item) 0

  in_item : (j at : ℕ) → j < item_size → at ≡ items_at + (item_size * item + j) → item_seen words (level_seen words) head code j ≡ seen words at
  in_item j at low is =
      let k : ℕ = item_size * item + j in
      let whole : item ≡ k / item_size = omega arith in
      let rest : j ≡ k % item_size = omega arith in
      let high : 21 ≤ at = omega arith in
      let behind : k ≡ at - items_at = omega arith in
      sym (if_true (ltb item (count_seen words)) (item_seen words (level_seen words) head code j) 0 (lt-ltb item (count_seen words) there))
      ∙ (λ i. place_seen words (whole i) (rest i)) ∙ ap (items_seen words) behind ∙ at_items words at high

  abbrev others : ℕ → ℕ
  others j = if j == 9 then code_number code else value_seen words (level_seen words) code (j - 10)

  abbrev texts : ℕ → ℕ
  texts j = if ltb j 9 then text_seen words (code_at code) (code_tail code) (j - 2) else others j

  abbrev behind : ℕ → ℕ
  behind j = if j == 1 then head else texts j

  past : (j : ℕ) → 1 < j → item_seen words (level_seen words) head code j ≡ texts j
  past j high =
      if_false (j == 0) (code / length_unit % length_unit) (behind j) (ne_eqb j 0 (λ e. omega (arith, e, high)))
      ∙ if_false (j == 1) head (texts j) (ne_eqb j 1 (λ e. omega (arith, e, high)))

  key_here : (at : ℕ) → at < 8 → key_seen words item at ≡ item_seen words (level_seen words) head code (suc at)
  key_here zero low = refl
  key_here (suc at) low =
      let one : suc at - 1 ≡ suc (suc at) - 2 = omega arith in
      if_false (suc at == 0) head (text_seen words (code_at code) (code_tail code) (suc at - 1)) (ne_eqb (suc at) 0 (λ e. omega (arith, e)))
      ∙ ap (text_seen words (code_at code) (code_tail code)) one
      ∙ sym (if_true (ltb (suc (suc at)) 9) (text_seen words (code_at code) (code_tail code) (suc (suc at) - 2)) (others (suc (suc at))) (lt-ltb (suc (suc at)) 9 (omega arith)))
      ∙ sym (past (suc (suc at)) (omega arith))

  content_here : (at : ℕ) → content_seen words item at ≡ item_seen words (level_seen words) head code (10 + at)
  content_here at =
      let j : ℕ = 10 + at in
      let same : at ≡ j - 10 = omega arith in
      ap (value_seen words (level_seen words) code) same
      ∙ sym (if_false (j == 9) (code_number code) (value_seen words (level_seen words) code (j - 10)) (ne_eqb j 9 (λ e. omega (arith, e))))
      ∙ sym (if_false (ltb j 9) (text_seen words (code_at code) (code_tail code) (j - 2)) (others j) (le-ltb j 9 (omega arith)))
      ∙ sym (past j (omega arith))

  pub key_is : (at : ℕ) → at < 8 → key_seen words item at ≡ seen words (items_at + item_size * item + 1 + at)
  key_is at low = key_here at low ∙ in_item (suc at) (items_at + item_size * item + 1 + at) (omega arith) (omega arith)

  pub content_is : (at : ℕ) → at < 8 → content_seen words item at ≡ seen words (items_at + item_size * item + field_size + 1 + at)
  content_is at low = content_here at ∙ in_item (10 + at) (items_at + item_size * item + field_size + 1 + at) (omega arith) (omega arith)

  pub key_length_is : code / length_unit % length_unit ≡ seen words (items_at + item_size * item)
  key_length_is = in_item 0 (items_at + item_size * item) (omega arith) (omega arith)

  pub content_length_is : code_number code ≡ seen words (items_at + item_size * item + field_size)
  content_length_is = in_item 9 (items_at + item_size * item + field_size) (omega arith) (omega arith)

-- By a word with which the row begins: the count of its items, and that it has an item.
module _ (content : Record) (h : IsCompact content (compact_words content)) (first : ℕ) (begins : Begins first content) where
  abbrev spelled : List ℕ
  spelled = compact_words content

  pub count_by : first / 65536 % 256 ≡ count_seen spelled
  count_by = counted first (get_or spelled 0 0) (get_or (words_of content) 0 0) (word_seen content spelled h 0 (omega arith)) begins.header

  pub item_by : (item : ℕ) → item < length (items_of content) → item < first / 65536 % 256
  item_by item there = let many = count_by in let here = count_there content h in omega arith

  module _ (item : ℕ) (there : item < first / 65536 % 256) where
    inside : item < count_seen spelled
    inside = let many = count_by in omega arith

    pub room_by : 2 + first / 65536 % 256 + item < length spelled
    room_by = code_room content h (first / 65536 % 256) item count_by there

    code_by : (looked : ℕ) → looked ≡ get_or spelled (2 + first / 65536 % 256 + item) 0 → looked ≡ get_or spelled (2 + count_seen spelled + item) 0
    code_by looked is = is ∙ ap (λ n. get_or spelled (2 + n + item) 0) count_by

    pub key_length_by : (looked : ℕ) → looked ≡ get_or spelled (2 + first / 65536 % 256 + item) 0 → looked / length_unit % length_unit ≡ get_or (words_of content) (items_at + item_size * item) 0
    key_length_by looked is =
        let few = count_few content h in
        let low = inside in
        ap (λ n. n / length_unit % length_unit) (code_by looked is) ∙ key_length_is spelled item inside ∙ word_seen content spelled h (items_at + item_size * item) (omega arith)

    pub content_length_by : (looked : ℕ) → looked ≡ get_or spelled (2 + first / 65536 % 256 + item) 0
        → looked / content_unit ≡ get_or (words_of content) (items_at + item_size * item + field_size) 0
    content_length_by looked is =
        let few = count_few content h in
        let low = inside in
        ap (λ n. n / content_unit) (code_by looked is) ∙ content_length_is spelled item inside ∙ word_seen content spelled h (items_at + item_size * item + field_size) (omega arith)

    pub key_by : (at : ℕ) → at < 8 → key_seen spelled item at ≡ get_or (words_of content) (items_at + item_size * item + 1 + at) 0
    key_by at short =
        let few = count_few content h in
        let low = inside in
        key_is spelled item inside at short ∙ word_seen content spelled h (items_at + item_size * item + 1 + at) (omega arith)

    pub content_by : (at : ℕ) → at < 8 → content_seen spelled item at ≡ get_or (words_of content) (items_at + item_size * item + field_size + 1 + at) 0
    content_by at short =
        let few = count_few content h in
        let low = inside in
        content_is spelled item inside at short ∙ word_seen content spelled h (items_at + item_size * item + field_size + 1 + at) (omega arith)

  pub first_by : (at : ℕ) → at < 8 → first_seen spelled at ≡ get_or (words_of content) (first_at + 1 + at) 0
  first_by at short =
      let j : ℕ = first_at + 1 + at in
      let same : at ≡ j - 4 = omega arith in
      ap (first_seen spelled) same ∙ at_first spelled j (omega arith) (omega arith) ∙ word_seen content spelled h j (omega arith)

  pub second_by : (at : ℕ) → at < 8 → second_seen spelled at ≡ get_or (words_of content) (second_at + 1 + at) 0
  second_by at short =
      let j : ℕ = second_at + 1 + at in
      let same : at ≡ j - 13 = omega arith in
      ap (second_seen spelled) same ∙ at_second spelled j (omega arith) (omega arith) ∙ word_seen content spelled h j (omega arith)
