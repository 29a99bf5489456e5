-- The words that are looked at are words of the record.
use Rattle.compact_rows.proofs.Words.{◌≡◌, ◌<◌, ◌≤◌, ◌+◌, ◌*◌, ◌/◌, ◌%◌, ℕ, zero, suc, List, [], ◌∷◌, length, get_or, drop, sym, ap, subst, ◌∙◌, arith, length-append}
use Rattle.compact_rows.proofs.Words.{All, All-head, All-tail, Content, Value, Child, Item, Record, Row, IsItem, IsRowOfParts, items_of, row_of, counts, items_fit, parts_fit}
use Rattle.compact_rows.proofs.Words.{part_limit, first_unit, length_unit, bound_size, code_at, code_number, code_tail, count_seen, first_length, level_seen, second_length, bound_text, codes}
use Rattle.compact_rows.proofs.Words.{compact_words, content_text, item_code, item_text, packed, texts, texts_at, words_for, IsCompact}
use Rattle.base_page.specs.Pages.{IsOfLevel}
use Rattle.record_slots.specs.Layout.{level_unit}
use Rattle.compact_rows.specs.Layout.{second_unit}
use Rattle.compact_rows.specs.Seen.{first_text_at, second_text_at}
use Rattle.compact_rows.specs.Spelling.{content_number}
use Rattle.compact_rows.specs.Spread.{HoldsText}
use Rattle.compact_rows.proofs.Items.{code_at_is, code_number_is, tail_is}
use Rattle.compact_rows.proofs.Parts.{bound_sized, code_there, count_is, first_is, level_is, second_is, texts_low}
use Rattle.compact_rows.proofs.Sizes.{row_long}
use Rattle.compact_rows.proofs.Texts.{packed_long}

-- the text of the first item
one_held : (words : List ℕ) (level at : ℕ) (item : Item) → IsItem level item → at < length_unit → at + length (item_text item) ≤ length words → HoldsText words level (item_code at item)
one_held words level at item is low room =
    let both = length-append (packed (drop 8 item.key)) (content_text item.content) in
    let tail = tail_is level at item is low ∙ sym (packed_long (drop 8 item.key)) in
    let start = code_at_is level at item is low in
    let number = code_number_is level at item is low in
    record {
      key = omega arith;
      value = λ leaf. by item.content is.kind leaf number
          (let here : code_at (item_code at item) + code_tail (item_code at item) + length (content_text item.content) ≤ length words = omega arith in here);
    }
  where
    by : (content : Content) → IsOfLevel level content → level ≡ 0 → code_number (item_code at item) ≡ content_number content
        → code_at (item_code at item) + code_tail (item_code at item) + length (content_text content) ≤ length words
        → code_at (item_code at item) + code_tail (item_code at item) + words_for (code_number (item_code at item)) ≤ length words
    by (Value value) kind leaf number here =
        rw (packed_long value ∙ ap words_for (sym number)) at here
    by (Child page held) kind leaf number here = absurd (omega (arith, kind, leaf))

pub all_held : (words : List ℕ) (level at : ℕ) (items : List Item) (place : ℕ) → place < length items → All (IsItem level) items → at + length (texts items) < length_unit
    → at + length (texts items) ≤ length words → HoldsText words level (get_or (codes at items) place 0)
all_held words level at [] place within each low room = absurd (omega arith)
all_held words level at (item ∷ items) zero within each low room =
    let sum = length-append (item_text item) (texts items) in
    one_held words level at item (All-head (IsItem level) item items each) (omega arith) (omega arith)
all_held words level at (item ∷ items) (suc place) within each low room =
    let sum = length-append (item_text item) (texts items) in
    all_held words level (at + length (item_text item)) items place (omega arith) (All-tail (IsItem level) item items each) (omega arith) (omega arith)

module _ (content : Record) (h : IsCompact content (compact_words content)) where
  abbrev words : List ℕ
  words = compact_words content

  abbrev row : Row
  row = row_of content

  parts : IsRowOfParts row
  parts = parts_fit content h.spellable h.short

  each : All (IsItem row.level) (items_of content)
  each = items_fit content h.spellable h.short

  long : length words ≡ 2 + 2 * length (items_of content) + (length (packed row.first) + length (bound_text row.second) + length (texts (items_of content)))
  long = row_long row (items_of content)

  pub two_there : 1 < length words
  two_there = let l = long in omega arith

  pub count_there : count_seen words ≡ length (items_of content)
  count_there = count_is row (items_of content) parts (counts content) each ∙ sym (counts content)

  pub count_few : count_seen words ≤ 24
  count_few = let few = parts.few in let c = count_is row (items_of content) parts (counts content) each in omega arith

  pub first_within : first_text_at words + words_for (first_length words) ≤ length words
  first_within =
      let l = long in
      let c = count_there in
      let first = packed_long row.first ∙ ap words_for (sym (first_is row (items_of content) parts (counts content) each)) in
      omega arith

  pub second_within : second_text_at words + bound_size (second_length words) ≤ length words
  second_within =
      let l = long in
      let c = count_there in
      let first = packed_long row.first ∙ ap words_for (sym (first_is row (items_of content) parts (counts content) each)) in
      let second = sym (bound_sized row.second parts.second) ∙ ap bound_size (sym (second_is row (items_of content) parts (counts content) each)) in
      omega arith

  pub head_within : (place : ℕ) → place < count_seen words → 2 + place < length words
  head_within place within = let l = long in let c = count_there in omega arith

  pub code_within : (place : ℕ) → place < count_seen words → 2 + count_seen words + place < length words
  code_within place within = let l = long in let c = count_there in omega arith

  pub text_within : (place : ℕ) → place < count_seen words → HoldsText words (level_seen words) (get_or words (2 + count_seen words + place) 0)
  text_within place within =
      let l = long in
      let c = count_there in
      let many = counts content in
      let level = level_is row (items_of content) parts (counts content) each in
      let inside : place < row.count = omega arith in
      let code = code_there row (items_of content) parts (counts content) each place inside in
      let low = texts_low row (items_of content) parts (counts content) each h.room in
      let items = all_held words row.level (texts_at row) (items_of content) place (omega arith) each low (omega arith) in
      subst (λ (p : ℕ × ℕ). HoldsText words p.0 p.1) (λ i. (sym level i, sym code i)) items

  -- the same by numbers that were looked at
  module _ (count : ℕ) (counted : count ≡ count_seen words) where
    pub first_room : (second size : ℕ) → second ≡ get_or words 1 0 → size ≡ words_for (second / first_unit % part_limit) → 2 + 2 * count + size ≤ length words
    first_room second size two is =
        let same : 2 + 2 * count + size ≡ first_text_at words + words_for (first_length words) =
        λ i. 2 + 2 * counted i + (is ∙ ap (λ n. words_for (n / first_unit % part_limit)) two) i in
        rw same first_within

    pub second_room : (second size other : ℕ) → second ≡ get_or words 1 0 → size ≡ words_for (second / first_unit % part_limit) → other ≡ bound_size (second / second_unit)
        → 2 + 2 * count + size + other ≤ length words
    second_room second size other two is bound =
        let same : 2 + 2 * count + size + other ≡ second_text_at words + bound_size (second_length words) =
        λ i. 2 + 2 * counted i + (is ∙ ap (λ n. words_for (n / first_unit % part_limit)) two) i + (bound ∙ ap (λ n. bound_size (n / second_unit)) two) i in
        rw same second_within

  module _ (count item : ℕ) (counted : count ≡ count_seen words) (there : item < count) where
    pub code_room : 2 + count + item < length words
    code_room = rw counted (code_within item (rw counted at there))

    pub text_room : (first code : ℕ) → first ≡ get_or words 0 0 → code ≡ get_or words (2 + count + item) 0 → HoldsText words (first / level_unit % part_limit) code
    text_room first code one is =
        subst (λ (p : ℕ × ℕ). HoldsText words p.0 p.1) (λ i. (sym one i / level_unit % part_limit, (ap (λ n. get_or words (2 + n + item) 0) (sym counted) ∙ sym is) i))
        (text_within item (rw counted at there))
