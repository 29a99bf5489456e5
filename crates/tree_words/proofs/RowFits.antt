-- A row has room for each record that may be placed there.
use Rattle.std.proofs.Common.{◌≡◌, ◌<◌, ◌≤◌, ◌+◌, ◌-◌, ◌*◌, ◌/◌, ◌∙◌, ℕ, List, [], ◌∷◌, ◌++◌, length, drop, length-append, length-drop, Bool, true, false, refl, sym, ap, subst, arith}
use Rattle.std.specs.Prelude.{ltb, if◌then◌else◌, Option, None, Some}
use Rattle.std.proofs.lemmas.Bool.{ltb-true, ltb-false}
use Rattle.tree_limits.specs.declared.limits.Limits.{Limits}
use Rattle.base_page.specs.declared.item.Content.{Content}
use Rattle.base_page.specs.declared.item.Content.TheVariants.{Value, Child}
use Rattle.base_page.specs.declared.item.Item.{Item}
use Rattle.deltas.specs.Sizes.{bound_size, content_size, delta_row, item_size, items_size, page_row, record_size, row_from, tail_size, text_size}
use Rattle.deltas.specs.declared.record.Record.{Record}
use Rattle.deltas.specs.declared.record.Record.TheVariants.{Base, Put, Delete, Split, Term, Hold, Remove, Merge, Unterm}
use Rattle.record_slots.specs.Layout.{row_size}
use Rattle.record_slots.specs.Parts.{items_of, row_of}
use Rattle.record_slots.specs.Spells.{HasSpelling, IsSpelling}
use Rattle.record_slots.specs.Spelling.{words_of}
use Rattle.record_slots.proofs.SpellingLaws.{spelling_length}
use Rattle.compact_rows.specs.Spelling.{bound_text, compact_words, content_text, item_text, packed, texts}
use Rattle.compact_rows.proofs.Sizes.{has_room, is_narrow, row_long}
use Rattle.compact_rows.proofs.Texts.{packed_long}
use Rattle.tree_words.specs.Layout.{width_of}
use Rattle.tree_words.specs.Words.{stored}
use Rattle.tree_words.proofs.RowWidths.{not_below, one_width}

-- ---- how many words a record takes
bound_long : (bound : Option (List ℕ)) → length (bound_text bound) ≡ bound_size bound
bound_long None = refl
bound_long (Some key) = packed_long key

content_long : (content : Content) → length (content_text content) ≡ content_size content
content_long (Value value) = packed_long value
content_long (Child page held) = refl

tail_long : (key : List ℕ) → length (packed (drop 8 key)) ≡ tail_size key
tail_long key = packed_long (drop 8 key) ∙ ap (λ (n : ℕ). (n + 7) / 8) (length-drop 8 key)

item_long : (item : Item) → 2 + length (item_text item) ≡ item_size item
item_long item =
    let both = length-append (packed (drop 8 item.key)) (content_text item.content) in
    let tail = tail_long item.key in
    let content = content_long item.content in
    omega (arith, both, tail, content)

texts_long : (items : List Item) → 2 * length items + length (texts items) ≡ items_size items
texts_long [] = refl
texts_long (item ∷ items) =
    let both = length-append (item_text item) (texts items) in
    let one = item_long item in
    let rest = texts_long items in
    omega (arith, both, one, rest)

pub compact_long : (content : Record) → length (compact_words content) ≡ record_size content
compact_long content = row_long (row_of content) (items_of content) ∙ by content
  where
    none : length (packed []) ≡ 0
    none = refl

    by : (content : Record) → 2 + 2 * length (items_of content) + (length (packed (row_of content).first) + length (bound_text (row_of content).second) + length (texts (items_of content)))
        ≡ record_size content
    by (Base page) = let low = packed_long page.low in let high = bound_long page.high in let items = texts_long page.items in omega (arith, low, high, items)
    by (Put put) =
        let both = length-append (packed (drop 8 put.key) ++ packed put.value) [] in
        let text = length-append (packed (drop 8 put.key)) (packed put.value) in
        let tail = tail_long put.key in
        let value = packed_long put.value in
        omega (arith, both, text, tail, value, none)
    by (Delete delete) = let key = packed_long delete.key in omega (arith, key, none)
    by (Split split) = let key = packed_long split.separator in omega (arith, key, none)
    by (Term term) = let key = packed_long term.separator in omega (arith, key, none)
    by (Hold hold) = let key = packed_long hold.separator in omega (arith, key, none)
    by (Remove remove) = omega (arith, none)
    by (Merge merge) = let low = packed_long merge.low in let high = bound_long merge.high in let items = texts_long merge.items in omega (arith, low, high, items)
    by (Unterm unterm) = let key = packed_long unterm.separator in omega (arith, key, none)

-- ---- how many words a row has
module _ (limits : Limits) (row : ℕ) where
  wide_there : limits.wide_from ≤ row → width_of limits row ≡ row_size
  wide_there low = let o = limits.widths.ordered in rw (not_below row limits.narrow_rows (omega (arith, low, o)), not_below row limits.wide_from low) refl

  page_there : limits.narrow_rows ≤ row → limits.page_words ≤ width_of limits row
  page_there low = rw (not_below row limits.narrow_rows low) (go (ltb row limits.wide_from))
    where
      go : (page : Bool) → limits.page_words ≤ (if page then limits.page_words else row_size)
      go true = omega arith
      go false = limits.widths.fitting

  some_there : limits.narrow_words ≤ width_of limits row
  some_there = go (ltb row limits.narrow_rows) (ltb row limits.wide_from)
    where
      go : (narrow page : Bool) → limits.narrow_words ≤ (if narrow then limits.narrow_words else if page then limits.page_words else row_size)
      go true page = omega arith
      go false true = limits.widths.widening
      go false false = let few = limits.widths.fitting in let more = limits.widths.widening in omega (arith, few, more)

  -- a row for a page, and one for any other record
  page_fits : (size : ℕ) → size ≤ row_size → page_row limits size ≤ row → size ≤ width_of limits row
  page_fits size few from = go (ltb limits.page_words size) refl from
    where
      go : (long : Bool) → ltb limits.page_words size ≡ long → (if long then limits.wide_from else limits.narrow_rows) ≤ row → size ≤ width_of limits row
      go true e from = let wide = wide_there from in omega (arith, wide, few)
      go false e from = let page = page_there from in let short = ltb-false limits.page_words size e in omega (arith, page, short)

  delta_fits : (size : ℕ) → size ≤ 24 → delta_row limits size ≤ row → size ≤ width_of limits row
  delta_fits size few from = go (ltb limits.narrow_words size) refl from
    where
      go : (long : Bool) → ltb limits.narrow_words size ≡ long → (if long then limits.narrow_rows else 0) ≤ row → size ≤ width_of limits row
      go true e from = let page = page_there from in let room = limits.widths.page_room in omega (arith, page, room, few)
      go false e from = let some = some_there in let short = ltb-false limits.narrow_words size e in omega (arith, some, short)

  compact_fits : (content : Record) → HasSpelling content → row_from limits content ≤ row → length (compact_words content) ≤ width_of limits row
  compact_fits content is from = rw (compact_long content) (by content refl from)
    where
      most : record_size content ≤ row_size
      most = let room = has_room content is.spellable is.short in let long = compact_long content in omega (arith, room, long)

      few : (((row_of content).kind ≡ 1) → ⊥) × (((row_of content).kind ≡ 8) → ⊥) → record_size content ≤ 24
      few delta = let narrow = is_narrow content is.spellable is.short delta in let long = compact_long content in omega (arith, narrow, long)

      by : (other : Record) → other ≡ content → row_from limits other ≤ row → record_size other ≤ width_of limits row
      by (Base page) e from = page_fits (record_size (Base page)) (rw (← e) at most) from
      by (Merge merge) e from = page_fits (record_size (Merge merge)) (rw (← e) at most) from
      by other e from = delta_fits (record_size other) (rw (← e) at (few (rw (← e) ((λ k. cc), (λ k. cc))))) from

-- a record that may be placed in a row has no more words there than the row
pub stored_fits : (limits : Limits) (row : ℕ) (content : Record) → HasSpelling content → row_from limits content ≤ row → length (stored limits content) ≤ width_of limits row
stored_fits limits row content is from = by limits.is_large refl
  where
    by : (large : Bool) → limits.is_large ≡ large → length (if large then compact_words content else words_of content) ≤ width_of limits row
    by true e = compact_fits limits row content is from
    by false e = let long = spelling_length content (words_of content) is in let wide = (one_width limits e row).1 in omega (arith, long, wide)
