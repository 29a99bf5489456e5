-- Where the parts of a compact row stand, and what is seen of them.
use Rattle.compact_rows.proofs.Words.{◌≡◌, ◌==◌, ◌<◌, ◌≤◌, ◌+◌, ◌*◌, ◌-◌, ◌/◌, ◌%◌, inl, inr, ℕ, zero, suc, List, ◌++◌, length, get_or, drop, refl, sym, ap}
use Rattle.compact_rows.proofs.Words.{◌∙◌, arith, length-append, if◌then◌else◌, ltb, All, cases_lt, eq-eqb, ne_eqb, lt-ltb, le-ltb, drop-drop, get_or_append_left, Item, Row, item_size}
use Rattle.compact_rows.proofs.Words.{items_at, part_limit, IsItem, IsRowOfParts, text_words, first_unit, length_unit, bound_size, count_seen, first_length, first_seen, item_seen, items_seen}
use Rattle.compact_rows.proofs.Words.{level_seen, second_length, second_seen, seen, text_seen, bound_text, codes, compact_row, first_word, heads, packed, second_word, texts}
use Rattle.compact_rows.proofs.Words.{texts_at, words_for}
use Rattle.std.proofs.Common.{replicate}
use Rattle.std.specs.Prelude.{Option, None, Some, IfSome}
use Rattle.std.proofs.lemmas.Bool.{cases_eq}
use Rattle.std.proofs.lemmas.List.{drop_at, get_or-append_right, get_or-replicate}
use Rattle.bw_model.specs.Bytes.{IsShort}
use Rattle.record_slots.specs.Layout.{form_unit, no_bound, row_size, this_form}
use Rattle.record_slots.specs.Parts.{header_word}
use Rattle.record_slots.specs.Spelling.{bound_words, items_words, words_left}
use Rattle.record_slots.proofs.ItemLaws.{items_length}
use Rattle.record_slots.proofs.RowLaws.{words_of_row}
use Rattle.compact_rows.specs.Layout.{next_unit}
use Rattle.compact_rows.specs.Seen.{first_text_at}
use Rattle.compact_rows.specs.Seen.{second_text_at}
use Rattle.compact_rows.specs.Spelling.{bound_length}
use Rattle.compact_rows.proofs.Items.{codes_long, heads_long, items_there}
use Rattle.compact_rows.proofs.Texts.{if_false, if_true, packed_long, text_there}

pub four : (at a b c d r : ℕ) → 3 < at → (if at == 0 then a else if at == 1 then b else if at == 2 then c else if at == 3 then d else r) ≡ r
four at a b c d r high =
    if_false (at == 0) a (if at == 1 then b else if at == 2 then c else if at == 3 then d else r) (ne_eqb at 0 (λ e. omega (arith, e, high)))
    ∙ if_false (at == 1) b (if at == 2 then c else if at == 3 then d else r) (ne_eqb at 1 (λ e. omega (arith, e, high)))
    ∙ if_false (at == 2) c (if at == 3 then d else r) (ne_eqb at 2 (λ e. omega (arith, e, high)))
    ∙ if_false (at == 3) d r (ne_eqb at 3 (λ e. omega (arith, e, high)))

bound_few : (bound : Option (List ℕ)) → IfSome bound IsShort → bound_length bound < part_limit
bound_few None short = omega arith
bound_few (Some key) short = let few = short.short in omega arith

pub bound_sized : (bound : Option (List ℕ)) → IfSome bound IsShort → bound_size (bound_length bound) ≡ length (bound_text bound)
bound_sized None short = refl
bound_sized (Some key) short =
    let few = short.short in
    if_false (length key == no_bound) 0 (words_for (length key)) (ne_eqb (length key) no_bound (λ e. omega (arith, e, few))) ∙ sym (packed_long key)

-- what is seen of a bound
bound_seen : (bound : Option (List ℕ)) → IfSome bound IsShort → (words rest : List ℕ) (at size j : ℕ) → j < 8 → size ≡ length (bound_text bound) → drop at words ≡ bound_text bound ++ rest
    → text_seen words at size j ≡ get_or (bound_words bound) (suc j) 0
bound_seen None short words rest at size j within is there =
    if_false (ltb j size) (get_or words (at + j) 0) 0 (le-ltb j size (let none : size ≡ 0 = is in omega arith)) ∙ sym (get_or-replicate 8 j 0 0 within)
bound_seen (Some key) short words rest at size j within is there = let few = short.short in text_there 8 j at size key words rest within (is ∙ packed_long key) (omega arith) there

bound_first : (bound : Option (List ℕ)) → bound_length bound ≡ get_or (bound_words bound) 0 0
bound_first None = refl
bound_first (Some key) = refl

bound_long : (bound : Option (List ℕ)) → length (bound_words bound) ≡ 9
bound_long None = refl
bound_long (Some key) = refl

module _ (row : Row) (items : List Item) (is : IsRowOfParts row) (counts : length items ≡ row.count) (each : All (IsItem row.level) items) where
  abbrev words : List ℕ
  words = compact_row row items

  pub count_is : count_seen words ≡ row.count
  count_is = let a = is.kind in let b = is.level in let c = is.few in let d = is.next in omega arith

  pub level_is : level_seen words ≡ row.level
  level_is = let a = is.kind in let b = is.level in let c = is.few in let d = is.next in omega arith

  next_is : first_word row / next_unit ≡ row.next
  next_is = let a = is.kind in let b = is.level in let c = is.few in let d = is.next in omega arith

  header_is : first_word row % form_unit + form_unit * this_form.number ≡ header_word row.kind row.level row.count
  header_is = let a = is.kind in let b = is.level in let c = is.few in let d = is.next in omega arith

  page_is : second_word row % first_unit ≡ row.page
  page_is = let a = is.page in omega arith

  pub first_is : first_length words ≡ length row.first
  first_is = let a = is.page in let b = is.first.short in omega arith

  pub second_is : second_length words ≡ bound_length row.second
  second_is = let a = is.page in let b = is.first.short in omega arith

  abbrev behind_codes : List ℕ
  behind_codes = packed row.first ++ (bound_text row.second ++ texts items)

  codes_there : drop (2 + row.count) words ≡ codes (texts_at row) items ++ behind_codes
  codes_there =
      let e : 2 + row.count ≡ suc (suc row.count) = omega arith in
      ap (λ k. drop k words) e ∙ drop_at (heads items) (codes (texts_at row) items ++ behind_codes) row.count (heads_long items ∙ counts)

  pub first_there : drop (first_text_at words) words ≡ packed row.first ++ (bound_text row.second ++ texts items)
  first_there =
      let c = count_is in
      let e : first_text_at words ≡ (2 + row.count) + row.count = omega arith in
      ap (λ k. drop k words) e ∙ sym (drop-drop row.count (2 + row.count) words) ∙ ap (drop row.count) codes_there
      ∙ drop_at (codes (texts_at row) items) behind_codes row.count (codes_long (texts_at row) items ∙ counts)

  pub second_there : drop (second_text_at words) words ≡ bound_text row.second ++ texts items
  second_there =
      let size : ℕ = words_for (first_length words) in
      let long : length (packed row.first) ≡ size = packed_long row.first ∙ ap words_for (sym first_is) in
      sym (drop-drop size (first_text_at words) words) ∙ ap (drop size) first_there ∙ drop_at (packed row.first) (bound_text row.second ++ texts items) size long

  texts_place : texts_at row ≡ second_text_at words + length (bound_text row.second)
  texts_place =
      let c = count_is in
      let long : length (packed row.first) ≡ words_for (first_length words) = packed_long row.first ∙ ap words_for (sym first_is) in
      omega arith

  pub texts_there : drop (texts_at row) words ≡ texts items
  texts_there =
      ap (λ k. drop k words) texts_place
      ∙ sym (drop-drop (length (bound_text row.second)) (second_text_at words) words) ∙ ap (drop (length (bound_text row.second))) second_there
      ∙ drop_at (bound_text row.second) (texts items) (length (bound_text row.second)) refl

  head_there : (place : ℕ) → place < row.count → get_or words (2 + place) 0 ≡ get_or (heads items) place 0
  head_there place within =
      let e : 2 + place ≡ suc (suc place) = omega arith in
      let long = heads_long items in
      ap (λ k. get_or words k 0) e ∙ get_or_append_left (heads items) (codes (texts_at row) items ++ behind_codes) 0 place (omega (arith, long, counts))

  pub code_there : (place : ℕ) → place < row.count → get_or words (2 + count_seen words + place) 0 ≡ get_or (codes (texts_at row) items) place 0
  code_there place within =
      let c = count_is in
      let e : 2 + count_seen words + place ≡ suc (suc (row.count + place)) = omega arith in
      let long = heads_long items ∙ counts in
      let many = codes_long (texts_at row) items ∙ counts in
      let less : row.count + place - row.count ≡ place = omega arith in
      ap (λ k. get_or words k 0) e
      ∙ get_or-append_right (heads items) (codes (texts_at row) items ++ behind_codes) row.count (row.count + place) 0 long (omega arith)
      ∙ ap (λ k. get_or (codes (texts_at row) items ++ behind_codes) k 0) less
      ∙ get_or_append_left (codes (texts_at row) items) behind_codes 0 place (omega (arith, many, within))

  module _ (room : length words ≤ 512) where
    pub texts_low : texts_at row + length (texts items) < length_unit
    texts_low =
        let h = heads_long items in
        let c = codes_long (texts_at row) items in
        let a = length-append (heads items) (codes (texts_at row) items ++ behind_codes) in
        let b = length-append (codes (texts_at row) items) behind_codes in
        let d = length-append (packed row.first) (bound_text row.second ++ texts items) in
        let e = length-append (bound_text row.second) (texts items) in
        omega (arith, counts, room)

    -- what is seen of the items
    items_are : (k : ℕ) → items_at + k < row_size → items_seen words k ≡ get_or (items_words items ++ replicate (words_left (length items)) 0) k 0
    items_are k low = elim (cases_lt (k / item_size) row.count) [
      | inl within ↦
          let c = count_is in
          let there : k / item_size < count_seen words = omega (arith, c, within) in
          let long = items_length items in
          let whole : item_size * (k / item_size) + k % item_size ≡ k = omega arith in
          let rest : k % item_size < item_size = omega arith in
          let inside : k < length (items_words items) = omega (arith, long, counts, within, whole, rest) in
          if_true (ltb (k / item_size) (count_seen words))
          (item_seen words (level_seen words) (get_or words (2 + k / item_size) 0) (get_or words (2 + count_seen words + k / item_size) 0) (k % item_size)) 0
          (lt-ltb (k / item_size) (count_seen words) there)
          ∙ (λ i. item_seen words (level_is i) (head_there (k / item_size) within i) (code_there (k / item_size) within i) (k % item_size))
          ∙ items_there words row.level (texts_at row) items (k / item_size) (k % item_size) (omega (arith, counts, within)) rest each texts_low texts_there
          ∙ ap (λ n. get_or (items_words items) n 0) whole
          ∙ sym (get_or_append_left (items_words items) (replicate (words_left (length items)) 0) 0 k inside)
      | inr beyond ↦
          let c = count_is in
          let out : count_seen words ≤ k / item_size = omega (arith, c, beyond) in
          let long = items_length items in
          let past : item_size * length items ≤ k = omega (arith, counts, beyond) in
          if_false (ltb (k / item_size) (count_seen words))
          (item_seen words (level_seen words) (get_or words (2 + k / item_size) 0) (get_or words (2 + count_seen words + k / item_size) 0) (k % item_size)) 0
          (le-ltb (k / item_size) (count_seen words) out)
          ∙ sym (get_or-append_right (items_words items) (replicate (words_left (length items)) 0) (item_size * length items) k 0 long past
          ∙ get_or-replicate (words_left (length items)) (k - item_size * length items) 0 0 (omega (arith, low, past)))
    ]

    abbrev bound_on : List ℕ
    bound_on = bound_words row.second ++ (items_words items ++ replicate (words_left (length items)) 0)

    -- what is seen behind the first key's length
    behind_first : (i : ℕ) → 4 + i < row_size → seen words (suc (suc (suc (suc i)))) ≡ get_or (text_words 8 row.first ++ bound_on) i 0
    behind_first i low =
        four at (get_or words 0 0 % form_unit + form_unit * this_form.number) (get_or words 0 0 / next_unit) (get_or words 1 0 % first_unit) (first_length words)
        (if ltb at 12 then first_seen words (at - 4) else after) (omega arith)
        ∙ by_first
      where
        at : ℕ
        at = suc (suc (suc (suc i)))

        last : ℕ
        last = if ltb at 21 then second_seen words (at - 13) else items_seen words (at - items_at)

        after : ℕ
        after = if at == 12 then second_length words else last

        by_last : 9 ≤ i → last ≡ get_or bound_on (i - 8) 0
        by_last high = elim (cases_lt at 21) [
          | inl within ↦
              let j : ℕ = i - 9 in
              let is_j : at - 13 ≡ j = omega arith in
              let next : suc j ≡ i - 8 = omega arith in
              let small : j < 8 = omega arith in
              let long = bound_long row.second in
              let sized : bound_size (second_length words) ≡ length (bound_text row.second) = ap bound_size second_is ∙ bound_sized row.second is.second in
              if_true (ltb at 21) (second_seen words (at - 13)) (items_seen words (at - items_at)) (lt-ltb at 21 within)
              ∙ ap (second_seen words) is_j
              ∙ bound_seen row.second is.second words (texts items) (second_text_at words) (bound_size (second_length words)) j small sized second_there
              ∙ ap (λ k. get_or (bound_words row.second) k 0) next
              ∙ sym (get_or_append_left (bound_words row.second) (items_words items ++ replicate (words_left (length items)) 0) 0 (i - 8) (omega (arith, long, within)))
          | inr beyond ↦
              let k : ℕ = i - 17 in
              let is_k : at - items_at ≡ k = omega arith in
              let same : k ≡ i - 8 - 9 = omega arith in
              if_false (ltb at 21) (second_seen words (at - 13)) (items_seen words (at - items_at)) (le-ltb at 21 beyond)
              ∙ ap (items_seen words) is_k
              ∙ items_are k (omega arith)
              ∙ ap (λ n. get_or (items_words items ++ replicate (words_left (length items)) 0) n 0) same
              ∙ sym (get_or-append_right (bound_words row.second) (items_words items ++ replicate (words_left (length items)) 0) 9 (i - 8) 0 (bound_long row.second) (omega arith))
        ]

        by_after : 8 ≤ i → after ≡ get_or bound_on (i - 8) 0
        by_after high = elim (cases_eq i 8) [
          | inl same ↦
              let none : 0 ≡ i - 8 = omega arith in
              let long = bound_long row.second in
              if_true (at == 12) (second_length words) last (eq-eqb at 12 (omega arith))
              ∙ second_is ∙ bound_first row.second
              ∙ sym (get_or_append_left (bound_words row.second) (items_words items ++ replicate (words_left (length items)) 0) 0 0 (omega arith))
              ∙ ap (λ k. get_or bound_on k 0) none
          | inr other ↦
              let above : 9 ≤ i = elim (cases_lt 8 i) [ inl more ↦ (omega arith) | inr under ↦ absurd (other (let e : i ≡ 8 = omega arith in e)) ] in
              if_false (at == 12) (second_length words) last (ne_eqb at 12 (λ e. omega (arith, e, above))) ∙ by_last above
        ]

        by_first : (if ltb at 12 then first_seen words (at - 4) else after) ≡ get_or (text_words 8 row.first ++ bound_on) i 0
        by_first = elim (cases_lt i 8) [
          | inl within ↦
              let j : at - 4 ≡ i = omega arith in
              let few = is.first.short in
              let long : length (text_words 8 row.first) ≡ 8 = refl in
              if_true (ltb at 12) (first_seen words (at - 4)) after (lt-ltb at 12 (omega arith))
              ∙ ap (first_seen words) j
              ∙ text_there 8 i (first_text_at words) (words_for (first_length words)) row.first words (bound_text row.second ++ texts items) within (ap words_for first_is) (omega arith) first_there
              ∙ sym (get_or_append_left (text_words 8 row.first) bound_on 0 i (omega arith))
          | inr beyond ↦
              if_false (ltb at 12) (first_seen words (at - 4)) after (le-ltb at 12 (omega arith))
              ∙ by_after beyond
              ∙ sym (get_or-append_right (text_words 8 row.first) bound_on 8 i 0 refl beyond)
        ]

    -- each word of the row of today's form
    pub seen_is : (at : ℕ) → at < row_size → seen words at ≡ get_or (words_of_row row items) at 0
    seen_is zero low = header_is ∙ ap (header_word row.kind row.level) (sym counts)
    seen_is (suc zero) low = next_is
    seen_is (suc (suc zero)) low = page_is
    seen_is (suc (suc (suc zero))) low = first_is
    seen_is (suc (suc (suc (suc i)))) low = behind_first i (omega arith)
