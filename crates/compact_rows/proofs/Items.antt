-- The words of items, as they stand in a compact row and in today's rows.
use Rattle.compact_rows.proofs.Words.{◌≡◌, ◌==◌, ◌<◌, ◌≤◌, ◌+◌, ◌*◌, ◌-◌, ◌/◌, ◌%◌, inl, inr, ℕ, zero, suc, Bool, true, false, List, [], ◌∷◌, ◌++◌, length, get_or, drop, refl, sym, ap}
use Rattle.compact_rows.proofs.Words.{◌∙◌, arith, append_assoc, length-append, length-drop, if◌then◌else◌, ltb, All, cases_lt, eq-eqb, ne_eqb, lt-ltb, le-ltb, drop-drop, get_or_append_left}
use Rattle.compact_rows.proofs.Words.{All-head, All-tail, Content, Value, Child, Item, item_size, part_limit, IsItem, text_words, content_unit, length_unit, code_at, code_number}
use Rattle.compact_rows.proofs.Words.{code_tail, item_seen, text_seen, value_seen, codes, content_text, heads, item_code, item_text, packed, texts, words_for}
use Rattle.std.proofs.lemmas.Bool.{cases_eq}
use Rattle.std.proofs.lemmas.List.{drop_at, get_or-append_right, get_or-replicate}
use Rattle.base_page.specs.Pages.{IsOfLevel}
use Rattle.base_page.specs.Rules.{is_held}
use Rattle.deltas.specs.Spellable.{HasPid}
use Rattle.record_slots.specs.Layout.{held_mark}
use Rattle.record_slots.specs.Spells.{IsShortContent}
use Rattle.record_slots.specs.Spelling.{content_words, item_words, items_words}
use Rattle.record_slots.proofs.ItemLaws.{item_long}
use Rattle.compact_rows.specs.Layout.{mark_unit}
use Rattle.compact_rows.specs.Seen.{code_length}
use Rattle.compact_rows.specs.Spelling.{content_number, head_word}
use Rattle.compact_rows.proofs.Texts.{if_false, if_true, packed_long, text_there}

-- what a content's number is, in an item of a page
number_small : (level : ℕ) (item : Item) → IsItem level item → content_number item.content < content_unit
number_small level item is = by item.content is.short.1 is.child
  where
    by : (content : Content) → IsShortContent content → HasPid content → content_number content < content_unit
    by (Value value) short pid = let few = short.short in omega arith
    by (Child page held) short pid = let below = pid.1 in omega arith

-- the parts of an item's word
module _ (level at : ℕ) (item : Item) (is : IsItem level item) (low : at < length_unit) where
  abbrev code : ℕ
  code = item_code at item

  key_short : length item.key ≤ 64
  key_short = is.short.0.short

  pub code_at_is : code_at code ≡ at
  code_at_is = by (is_held item.content) (content_number item.content)
    where
      by : (held : Bool) (number : ℕ) → (at + length_unit * length item.key + (if held then mark_unit else 0) + content_unit * number) % length_unit ≡ at
      by true number = let few = key_short in omega arith
      by false number = let few = key_short in omega arith

  pub code_length_is : code_length code ≡ length item.key
  code_length_is = by (is_held item.content) (content_number item.content)
    where
      by : (held : Bool) (number : ℕ) → (at + length_unit * length item.key + (if held then mark_unit else 0) + content_unit * number) / length_unit % part_limit ≡ length item.key
      by true number = let few = key_short in omega arith
      by false number = let few = key_short in omega arith

  pub code_mark_is : code / length_unit % length_unit ≡ length item.key + (if is_held item.content then held_mark else 0)
  code_mark_is = by (is_held item.content) (content_number item.content)
    where
      by : (held : Bool) (number : ℕ) → (at + length_unit * length item.key + (if held then mark_unit else 0) + content_unit * number) / length_unit % length_unit
          ≡ length item.key + (if held then held_mark else 0)
      by true number = let few = key_short in omega arith
      by false number = let few = key_short in omega arith

  pub code_number_is : code_number code ≡ content_number item.content
  code_number_is = by (is_held item.content) (content_number item.content)
    where
      by : (held : Bool) (number : ℕ) → (at + length_unit * length item.key + (if held then mark_unit else 0) + content_unit * number) / content_unit ≡ number
      by true number = let few = key_short in omega arith
      by false number = let few = key_short in omega arith

  pub tail_is : code_tail code ≡ words_for (length (drop 8 item.key))
  tail_is = ap (λ n. words_for (n - 8)) code_length_is ∙ ap words_for (sym (length-drop 8 item.key))

-- what stands behind an item's first two words
module _ (words : List ℕ) (level at : ℕ) (item : Item) (is : IsItem level item) (low : at < length_unit) (rest : List ℕ) (there : drop at words ≡ item_text item ++ rest) where
  abbrev text : List ℕ
  text = packed (drop 8 item.key)

  key_there : drop at words ≡ text ++ (content_text item.content ++ rest)
  key_there = there ∙ append_assoc text (content_text item.content) rest

  content_there : drop (at + code_tail (item_code at item)) words ≡ content_text item.content ++ rest
  content_there =
      let long : length text ≡ code_tail (item_code at item) = packed_long (drop 8 item.key) ∙ sym (tail_is level at item is low) in
      sym (drop-drop (code_tail (item_code at item)) at words) ∙ ap (drop (code_tail (item_code at item))) key_there
      ∙ drop_at text (content_text item.content ++ rest) (code_tail (item_code at item)) long

  -- a word of the key
  key_word : (j : ℕ) → j < 7 → text_seen words (code_at (item_code at item)) (code_tail (item_code at item)) j ≡ get_or (text_words 7 (drop 8 item.key)) j 0
  key_word j within =
      let few : length item.key ≤ 64 = is.short.0.short in
      let short = length-drop 8 item.key in
      ap (λ n. text_seen words n (code_tail (item_code at item)) j) (code_at_is level at item is low)
      ∙ text_there 7 j at (code_tail (item_code at item)) (drop 8 item.key) words (content_text item.content ++ rest) within (tail_is level at item is low) (omega arith) key_there

  -- a word of a value, or of nothing
  value_word : (j : ℕ) → j < 8 → value_seen words level (item_code at item) j ≡ get_or (content_words item.content) (suc j) 0
  value_word j within = by item.content is.short.1 is.kind (code_number_is level at item is low) content_there
    where
      from : ℕ
      from = code_at (item_code at item) + code_tail (item_code at item)

      same_place : at + code_tail (item_code at item) ≡ from
      same_place = ap (λ n. n + code_tail (item_code at item)) (sym (code_at_is level at item is low))

      by : (content : Content) → IsShortContent content → IsOfLevel level content → code_number (item_code at item) ≡ content_number content
          → drop (at + code_tail (item_code at item)) words ≡ content_text content ++ rest → value_seen words level (item_code at item) j ≡ get_or (content_words content) (suc j) 0
      by (Value value) short leaf number stands =
          let few = short.short in
          if_true (level == 0) (text_seen words from (words_for (code_number (item_code at item))) j) 0 (eq-eqb level 0 leaf)
          ∙ text_there 8 j from (words_for (code_number (item_code at item))) value words rest within (ap words_for number) (omega arith) (ap (λ n. drop n words) (sym same_place) ∙ stands)
      by (Child page held) short index number stands =
          if_false (level == 0) (text_seen words from (words_for (code_number (item_code at item))) j) 0 (ne_eqb level 0 (λ e. omega (arith, index, e)))
          ∙ sym (get_or-replicate 8 j 0 0 within)

  abbrev behind : ℕ → ℕ
  behind j = if ltb j 9 then text_seen words (code_at (item_code at item)) (code_tail (item_code at item)) (j - 2)
      else if j == 9 then code_number (item_code at item) else value_seen words level (item_code at item) (j - 10)

  past_two : (j : ℕ) → 1 < j → item_seen words level (head_word item) (item_code at item) j ≡ behind j
  past_two j high =
      if_false (j == 0) (item_code at item / length_unit % length_unit) (if j == 1 then head_word item else behind j) (ne_eqb j 0 (λ e. omega (arith, e, high)))
      ∙ if_false (j == 1) (head_word item) (behind j) (ne_eqb j 1 (λ e. omega (arith, e, high)))

  number_first : content_number item.content ≡ get_or (content_words item.content) 0 0
  number_first = by item.content
    where
      by : (content : Content) → content_number content ≡ get_or (content_words content) 0 0
      by (Value value) = refl
      by (Child page held) = refl

  abbrev rest_words : List ℕ
  rest_words = text_words 7 (drop 8 item.key) ++ content_words item.content

  long_rest : length (text_words 7 (drop 8 item.key)) ≡ 7
  long_rest = refl

  behind_word : (i : ℕ) → suc (suc i) < item_size → behind (suc (suc i)) ≡ get_or rest_words i 0
  behind_word i within = elim (cases_lt i 7) [
    | inl low' ↦
        let less : suc (suc i) - 2 ≡ i = omega arith in
        if_true (ltb (suc (suc i)) 9) (text_seen words (code_at (item_code at item)) (code_tail (item_code at item)) (suc (suc i) - 2))
        (if suc (suc i) == 9 then code_number (item_code at item) else value_seen words level (item_code at item) (suc (suc i) - 10)) (lt-ltb (suc (suc i)) 9 (omega arith))
        ∙ ap (text_seen words (code_at (item_code at item)) (code_tail (item_code at item))) less
        ∙ key_word i low'
        ∙ sym (get_or_append_left (text_words 7 (drop 8 item.key)) (content_words item.content) 0 i low')
    | inr high ↦
        if_false (ltb (suc (suc i)) 9) (text_seen words (code_at (item_code at item)) (code_tail (item_code at item)) (suc (suc i) - 2))
        (if suc (suc i) == 9 then code_number (item_code at item) else value_seen words level (item_code at item) (suc (suc i) - 10)) (le-ltb (suc (suc i)) 9 (omega arith))
        ∙ content_word high
        ∙ sym (get_or-append_right (text_words 7 (drop 8 item.key)) (content_words item.content) 7 i 0 long_rest high)
  ]
    where
      content_word : 7 ≤ i → (if suc (suc i) == 9 then code_number (item_code at item) else value_seen words level (item_code at item) (suc (suc i) - 10))
          ≡ get_or (content_words item.content) (i - 7) 0
      content_word high = elim (cases_eq i 7) [
        | inl same ↦
            let none : 0 ≡ i - 7 = omega arith in
            if_true (suc (suc i) == 9) (code_number (item_code at item)) (value_seen words level (item_code at item) (suc (suc i) - 10)) (eq-eqb (suc (suc i)) 9 (omega arith))
            ∙ code_number_is level at item is low ∙ number_first ∙ ap (λ k. get_or (content_words item.content) k 0) none
        | inr other ↦
            let above : 7 < i = elim (cases_lt 7 i) [ inl more ↦ more | inr under ↦ absurd (other (let e : i ≡ 7 = omega arith in e)) ] in
            let less : suc (suc i) - 10 ≡ i - 8 = omega arith in
            let next : suc (i - 8) ≡ i - 7 = omega arith in
            if_false (suc (suc i) == 9) (code_number (item_code at item)) (value_seen words level (item_code at item) (suc (suc i) - 10)) (ne_eqb (suc (suc i)) 9 (λ e. omega (arith, e, above)))
            ∙ ap (value_seen words level (item_code at item)) less
            ∙ value_word (i - 8) (omega arith)
            ∙ ap (λ k. get_or (content_words item.content) k 0) next
      ]

  -- each word of the item
  pub item_there : (j : ℕ) → j < item_size → item_seen words level (head_word item) (item_code at item) j ≡ get_or (item_words item) j 0
  item_there zero within = code_mark_is level at item is low
  item_there (suc zero) within = refl
  item_there (suc (suc i)) within = past_two (suc (suc i)) (omega arith) ∙ behind_word i within

pub heads_long : (items : List Item) → length (heads items) ≡ length items
heads_long [] = refl
heads_long (item ∷ items) = ap suc (heads_long items)

pub codes_long : (at : ℕ) (items : List Item) → length (codes at items) ≡ length items
codes_long at [] = refl
codes_long at (item ∷ items) = ap suc (codes_long (at + length (item_text item)) items)

-- each word of items whose texts stand from a place on
pub items_there : (words : List ℕ) (level at : ℕ) (items : List Item) (place j : ℕ) → place < length items → j < item_size → All (IsItem level) items
    → at + length (texts items) < length_unit → drop at words ≡ texts items
    → item_seen words level (get_or (heads items) place 0) (get_or (codes at items) place 0) j ≡ get_or (items_words items) (item_size * place + j) 0
items_there words level at [] place j within below each low there = absurd (omega arith)
items_there words level at (item ∷ items) zero j within below each low there =
    let long = item_long item in
    let same : j ≡ item_size * 0 + j = omega arith in
    item_there words level at item (All-head (IsItem level) item items each) (omega arith) (texts items) there j below
    ∙ sym (get_or_append_left (item_words item) (items_words items) 0 j (omega arith))
    ∙ ap (λ k. get_or (items_words (item ∷ items)) k 0) same
items_there words level at (item ∷ items) (suc place) j within below each low there =
    let long = item_long item in
    let sum = length-append (item_text item) (texts items) in
    let less : item_size * place + j ≡ item_size * suc place + j - item_size = omega arith in
    let next : drop (at + length (item_text item)) words ≡ texts items =
    sym (drop-drop (length (item_text item)) at words) ∙ ap (drop (length (item_text item))) there ∙ drop_at (item_text item) (texts items) (length (item_text item)) refl in
    items_there words level (at + length (item_text item)) items place j (omega arith) below (All-tail (IsItem level) item items each) (omega arith) next
    ∙ ap (λ k. get_or (items_words items) k 0) less
    ∙ sym (get_or-append_right (item_words item) (items_words items) item_size (item_size * suc place + j) 0 long (omega arith))
