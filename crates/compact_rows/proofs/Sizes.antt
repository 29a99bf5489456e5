-- How many words records take.
use Rattle.compact_rows.proofs.Words.{◌≡◌, ◌≤◌, ◌+◌, ◌*◌, ℕ, List, [], ◌∷◌, ◌++◌, length, drop, refl, arith, length-append, length-drop, All, All-head}
use Rattle.compact_rows.proofs.Words.{All-tail, Content, Value, Child, Item, Record, Row, items_of, row_of, IsItem, IsRowOfParts, counts, items_fit, parts_fit, bound_text, codes, compact_row}
use Rattle.compact_rows.proofs.Words.{compact_words, content_text, heads, item_text, packed, texts, texts_at}
use Rattle.std.specs.Prelude.{Option, None, Some, IfSome}
use Rattle.bw_model.specs.Bytes.{IsShort}
use Rattle.deltas.specs.declared.record.Record.TheVariants.{Base, Put, Delete, Split, Term, Hold, Remove, Merge, Unterm}
use Rattle.deltas.specs.Spellable.{IsSpellable}
use Rattle.record_slots.specs.Spells.{HasShortTexts, IsShortContent}
use Rattle.compact_rows.specs.Layout.{most_words}
use Rattle.compact_rows.proofs.Items.{codes_long, heads_long}
use Rattle.compact_rows.proofs.Texts.{packed_long}

text_few : (text : List ℕ) → IsShort text → length (packed text) ≤ 8
text_few text short = let few = short.short in let long = packed_long text in omega arith

bound_few : (bound : Option (List ℕ)) → IfSome bound IsShort → length (bound_text bound) ≤ 8
bound_few None short = omega arith
bound_few (Some key) short = text_few key short

content_few : (content : Content) → IsShortContent content → length (content_text content) ≤ 8
content_few (Value value) short = text_few value short
content_few (Child page held) short = omega arith

item_few : (level : ℕ) (item : Item) → IsItem level item → length (item_text item) ≤ 15
item_few level item is =
    let few = is.short.0.short in
    let tail = packed_long (drop 8 item.key) in
    let rest = length-drop 8 item.key in
    let value = content_few item.content is.short.1 in
    let both = length-append (packed (drop 8 item.key)) (content_text item.content) in
    omega arith

texts_few : (level : ℕ) (items : List Item) → All (IsItem level) items → length (texts items) ≤ 15 * length items
texts_few level [] each = omega arith
texts_few level (item ∷ items) each =
    let one = item_few level item (All-head (IsItem level) item items each) in
    let rest = texts_few level items (All-tail (IsItem level) item items each) in
    let both = length-append (item_text item) (texts items) in
    omega arith

-- how many words a row takes
pub row_long : (row : Row) (items : List Item) → length (compact_row row items) ≡ 2 + 2 * length items + (length (packed row.first) + length (bound_text row.second) + length (texts items))
row_long row items =
    let behind : List ℕ = packed row.first ++ (bound_text row.second ++ texts items) in
    let h = heads_long items in
    let c = codes_long (texts_at row) items in
    let a = length-append (heads items) (codes (texts_at row) items ++ behind) in
    let b = length-append (codes (texts_at row) items) behind in
    let d = length-append (packed row.first) (bound_text row.second ++ texts items) in
    let e = length-append (bound_text row.second) (texts items) in
    omega arith

row_few : (row : Row) (items : List Item) → IsRowOfParts row → All (IsItem row.level) items → length (compact_row row items) ≤ 18 + 17 * length items
row_few row items is each =
    let whole = row_long row items in
    let first = text_few row.first is.first in
    let second = bound_few row.second is.second in
    let texts' = texts_few row.level items each in
    omega arith

pub has_room : (content : Record) → IsSpellable content → HasShortTexts content → length (compact_words content) ≤ most_words
has_room content spellable short =
    let is = parts_fit content spellable short in
    let few = is.few in
    let many = counts content in
    let all = row_few (row_of content) (items_of content) is (items_fit content spellable short) in
    omega arith

-- a record that is neither a base nor a merge takes few words
abbrev IsDelta : Record → Type 0
IsDelta content = (((row_of content).kind ≡ 1) → ⊥) × (((row_of content).kind ≡ 8) → ⊥)

-- it has no second key, and one item, or a key
module _ (content : Record) (spellable : IsSpellable content) (short : HasShortTexts content) where
  parts : IsRowOfParts (row_of content)
  parts = parts_fit content spellable short

  no_bound : IsDelta content → length (bound_text (row_of content).second) ≡ 0
  no_bound delta = by content delta
    where
      by : (content : Record) → IsDelta content → length (bound_text (row_of content).second) ≡ 0
      by (Base page) delta = absurd (delta.0 refl)
      by (Put put) delta = refl
      by (Delete delete) delta = refl
      by (Split split) delta = refl
      by (Term term) delta = refl
      by (Hold hold) delta = refl
      by (Remove remove) delta = refl
      by (Merge merge) delta = absurd (delta.1 refl)
      by (Unterm unterm) delta = refl

  one_part : IsDelta content → 8 * length (items_of content) + length (packed (row_of content).first) ≤ 8
  one_part delta = by content (text_few (row_of content).first parts.first) delta
    where
      by : (content : Record) → length (packed (row_of content).first) ≤ 8 → IsDelta content → 8 * length (items_of content) + length (packed (row_of content).first) ≤ 8
      by (Base page) few delta = absurd (delta.0 refl)
      by (Put put) few delta = omega arith
      by (Delete delete) few delta = omega arith
      by (Split split) few delta = omega arith
      by (Term term) few delta = omega arith
      by (Hold hold) few delta = omega arith
      by (Remove remove) few delta = omega arith
      by (Merge merge) few delta = absurd (delta.1 refl)
      by (Unterm unterm) few delta = omega arith

  pub is_narrow : IsDelta content → length (compact_words content) ≤ 19
  is_narrow delta =
      let whole = row_long (row_of content) (items_of content) in
      let each = texts_few (row_of content).level (items_of content) (items_fit content spellable short) in
      let none = no_bound delta in
      let one = one_part delta in
      omega arith
