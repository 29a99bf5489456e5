-- What is seen of a compact record is seen also where other words stand behind it.
use Rattle.std.proofs.Common.{◌≡◌, ◌==◌, ◌<◌, ◌≤◌, ◌+◌, ◌*◌, ◌-◌, ◌/◌, ◌%◌, inl, inr, ℕ, List, length, get_or, refl, sym, ap, subst, ◌∙◌, arith}
use Rattle.std.specs.Prelude.{if◌then◌else◌, ltb}
use Rattle.std.proofs.lemmas.Bool.{cases_lt, cases_eq, eq-eqb, ne_eqb, lt-ltb, le-ltb}
use Rattle.deltas.specs.declared.record.Record.{Record}
use Rattle.record_slots.specs.Layout.{form_unit, item_size, items_at, part_limit, this_form}
use Rattle.compact_rows.specs.Layout.{content_unit, first_unit, length_unit, next_unit, second_unit}
use Rattle.compact_rows.specs.Seen.{bound_size, code_at, code_number, code_tail, count_seen, first_length, first_seen, first_text_at, item_seen, items_seen}
use Rattle.compact_rows.specs.Seen.{level_seen, place_seen, second_length, second_seen, second_text_at, seen, text_seen, value_seen}
use Rattle.compact_rows.specs.Spelling.{compact_words, words_for}
use Rattle.compact_rows.specs.Spells.{IsCompact}
use Rattle.compact_rows.specs.Spread.{HoldsText}
use Rattle.compact_rows.proofs.Texts.{if_false, if_true}
use Rattle.compact_rows.proofs.Within.{code_within, first_within, head_within, second_within, text_within, two_there}

module _ (words ws : List ℕ) (same : (j : ℕ) → j < length words → get_or ws j 0 ≡ get_or words j 0) where
  text_same : (at size j : ℕ) → at + size ≤ length words → text_seen ws at size j ≡ text_seen words at size j
  text_same at size j room = elim (cases_lt j size) [
    | inl low ↦ if_true (ltb j size) (get_or ws (at + j) 0) 0 (lt-ltb j size low) ∙ same (at + j) (omega arith) ∙ sym (if_true (ltb j size) (get_or words (at + j) 0) 0 (lt-ltb j size low))
    | inr high ↦ if_false (ltb j size) (get_or ws (at + j) 0) 0 (le-ltb j size high) ∙ sym (if_false (ltb j size) (get_or words (at + j) 0) 0 (le-ltb j size high))
  ]

  value_same : (level code j : ℕ) → HoldsText words level code → value_seen ws level code j ≡ value_seen words level code j
  value_same level code j held = elim (cases_eq level 0) [
    | inl leaf ↦
        if_true (level == 0) (text_seen ws (code_at code + code_tail code) (words_for (code_number code)) j) 0 (eq-eqb level 0 leaf)
        ∙ text_same (code_at code + code_tail code) (words_for (code_number code)) j (held.value leaf)
        ∙ sym (if_true (level == 0) (text_seen words (code_at code + code_tail code) (words_for (code_number code)) j) 0 (eq-eqb level 0 leaf))
    | inr index ↦
        if_false (level == 0) (text_seen ws (code_at code + code_tail code) (words_for (code_number code)) j) 0 (ne_eqb level 0 index)
        ∙ sym (if_false (level == 0) (text_seen words (code_at code + code_tail code) (words_for (code_number code)) j) 0 (ne_eqb level 0 index))
  ]

  item_same : (level head code j : ℕ) → HoldsText words level code → item_seen ws level head code j ≡ item_seen words level head code j
  item_same level head code j held = λ i.
      if j == 0 then code / length_unit % length_unit
      else if j == 1 then head
      else if ltb j 9 then text_same (code_at code) (code_tail code) (j - 2) held.key i
      else if j == 9 then code_number code
      else value_same level code (j - 10) held i

module _ (content : Record) (h : IsCompact content (compact_words content)) (ws : List ℕ)
    (same : (j : ℕ) → j < length (compact_words content) → get_or ws j 0 ≡ get_or (compact_words content) j 0) where
  abbrev words : List ℕ
  words = compact_words content

  zero_same : get_or ws 0 0 ≡ get_or words 0 0
  zero_same = same 0 (let t = two_there content h in omega arith)

  one_same : get_or ws 1 0 ≡ get_or words 1 0
  one_same = same 1 (two_there content h)

  count_same : count_seen ws ≡ count_seen words
  count_same = ap (λ n. n / 65536 % 256) zero_same

  level_same : level_seen ws ≡ level_seen words
  level_same = ap (λ n. n / 256 % 256) zero_same

  first_same : first_length ws ≡ first_length words
  first_same = ap (λ n. n / first_unit % part_limit) one_same

  second_same : second_length ws ≡ second_length words
  second_same = ap (λ n. n / second_unit) one_same

  keys_first : (j : ℕ) → first_seen ws j ≡ first_seen words j
  keys_first j = (λ i. text_seen ws (2 + 2 * count_same i) (words_for (first_same i)) j) ∙ text_same words ws same (first_text_at words) (words_for (first_length words)) j (first_within content h)

  keys_second : (j : ℕ) → second_seen ws j ≡ second_seen words j
  keys_second j =
      (λ i. text_seen ws (2 + 2 * count_same i + words_for (first_same i)) (bound_size (second_same i)) j)
      ∙ text_same words ws same (second_text_at words) (bound_size (second_length words)) j (second_within content h)

  place_same : (place j : ℕ) → place_seen ws place j ≡ place_seen words place j
  place_same place j = elim (cases_lt place (count_seen words)) [
    | inl within ↦
        let code : get_or ws (2 + count_seen ws + place) 0 ≡ get_or words (2 + count_seen words + place) 0 =
        ap (λ n. get_or ws (2 + n + place) 0) count_same ∙ same (2 + count_seen words + place) (code_within content h place within) in
        let head = same (2 + place) (head_within content h place within) in
        (λ i. if ltb place (count_same i) then item_seen ws (level_same i) (head i) (code i) j else 0)
        ∙ if_true (ltb place (count_seen words)) (item_seen ws (level_seen words) (get_or words (2 + place) 0)
        (get_or words (2 + count_seen words + place) 0) j) 0 (lt-ltb place (count_seen words) within)
        ∙ item_same words ws same (level_seen words) (get_or words (2 + place) 0) (get_or words (2 + count_seen words + place) 0) j (text_within content h place within)
        ∙ sym (if_true (ltb place (count_seen words)) (item_seen words (level_seen words) (get_or words (2 + place) 0) (get_or words (2 + count_seen words + place) 0) j) 0
        (lt-ltb place (count_seen words) within))
    | inr beyond ↦
        ap (λ n. if ltb place n then item_seen ws (level_seen ws) (get_or ws (2 + place) 0) (get_or ws (2 + count_seen ws + place) 0) j else 0) count_same
        ∙ if_false (ltb place (count_seen words)) (item_seen ws (level_seen ws) (get_or ws (2 + place) 0) (get_or ws (2 + count_seen ws + place) 0) j) 0 (le-ltb place (count_seen words) beyond)
        ∙ sym (if_false (ltb place (count_seen words)) (item_seen words (level_seen words) (get_or words (2 + place) 0) (get_or words (2 + count_seen words + place) 0) j) 0
        (le-ltb place (count_seen words) beyond))
  ]

  pub seen_same : (at : ℕ) → seen ws at ≡ seen words at
  seen_same at = λ i.
      if at == 0 then zero_same i % form_unit + form_unit * this_form.number
      else if at == 1 then zero_same i / next_unit
      else if at == 2 then one_same i % first_unit
      else if at == 3 then first_same i
      else if ltb at 12 then keys_first (at - 4) i
      else if at == 12 then second_same i
      else if ltb at 21 then keys_second (at - 13) i
      else place_same ((at - items_at) / item_size) ((at - items_at) % item_size) i
