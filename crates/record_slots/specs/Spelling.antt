-- The words that spell a record: what each kind of record puts into a row of a form (specs/Layout), and into one of today's.
use Rattle.std.specs.Prelude.{ℕ, zero, suc, ◌+◌, ◌*◌, ◌-◌, ◌^◌, List, [], ◌∷◌, ◌++◌, length, drop, Option, None, Some, unwrap_or, replicate, if◌then◌else◌}
use Rattle.base_page.specs.declared.item.Content.{Content}
use Rattle.base_page.specs.declared.item.Content.TheVariants.{Value, Child}
use Rattle.base_page.specs.declared.item.Item.{Item}
use Rattle.base_page.specs.Rules.{is_held}
use Rattle.deltas.specs.declared.record.Record.{Record}
use Rattle.deltas.specs.declared.record.Record.TheVariants.{Base, Put, Delete, Split, Term, Hold, Remove, Merge, Unterm}
use Rattle.record_slots.specs.Layout.{Form, this_form, count_unit, form_unit, held_mark, level_unit, no_bound}

-- n bytes as one number, the first byte the highest; past the end of the bytes there are zeros
abbrev pub big_endian : ℕ → List ℕ → ℕ
big_endian zero bytes = 0
big_endian (suc n) [] = 0
big_endian (suc n) (byte ∷ bytes) = byte * 256 ^ n + big_endian n bytes

-- n words of eight bytes each
abbrev pub text_words : ℕ → List ℕ → List ℕ
text_words zero bytes = []
text_words (suc n) bytes = big_endian 8 bytes ∷ text_words n (drop 8 bytes)

module _ (form : Form) where
  -- the length of a key or a value, and its bytes
  abbrev pub field_words_in : List ℕ → List ℕ
  field_words_in bytes = length bytes ∷ text_words form.text_size bytes

  -- One length says that there is no bound.
  abbrev pub bound_words_in : Option (List ℕ) → List ℕ
  bound_words_in None = no_bound ∷ replicate form.text_size 0
  bound_words_in (Some key) = field_words_in key

  -- a value, or the child's PID
  abbrev pub content_words_in : Content → List ℕ
  content_words_in (Value value) = field_words_in value
  content_words_in (Child page held) = page ∷ replicate form.text_size 0

  -- the length of the key with the mark of a held term, the key, and its content
  abbrev pub item_words_in : Item → List ℕ
  item_words_in item = (length item.key + (if is_held item.content then held_mark else 0)) ∷ (text_words form.text_size item.key ++ content_words_in item.content)

  abbrev pub items_words_in : List Item → List ℕ
  items_words_in [] = []
  items_words_in (item ∷ items) = item_words_in item ++ items_words_in items

  -- how many words so many items leave
  abbrev pub words_left_in : ℕ → ℕ
  words_left_in count = form.row_size - (3 + 2 * suc form.text_size) - 2 * suc form.text_size * count

  -- A row: the kind, the level, the count of items and the form in one word, the next row, a PID, two keys, of which the second may
  -- be no bound, and the items; the words behind them are 0.
  abbrev pub row_words_in : ℕ → ℕ → ℕ → ℕ → List ℕ → Option (List ℕ) → List Item → List ℕ
  row_words_in kind level next page first second items =
      (kind + level_unit * level + count_unit * length items + form_unit * form.number) ∷ next ∷ page
      ∷ (field_words_in first ++ (bound_words_in second ++ (items_words_in items ++ replicate (words_left_in (length items)) 0)))

  -- What each kind puts there: its number, the level, the next row, a PID, the two keys, and the items.
  abbrev pub words_of_in : Record → List ℕ
  words_of_in (Base page) = row_words_in 1 page.level 0 (unwrap_or page.right 0) page.low page.high page.items
  words_of_in (Put put) = row_words_in 2 0 put.next 0 [] (Some []) (record { key = put.key; content = Value put.value } ∷ [])
  words_of_in (Delete delete) = row_words_in 3 0 delete.next 0 delete.key (Some []) []
  words_of_in (Split split) = row_words_in 4 split.level split.next split.page split.separator (Some []) []
  words_of_in (Term term) = row_words_in 5 term.level term.next term.child term.separator (Some []) []
  words_of_in (Hold hold) = row_words_in 6 hold.level hold.next hold.child hold.separator (Some []) []
  words_of_in (Remove remove) = row_words_in 7 remove.level remove.next 0 [] (Some []) []
  words_of_in (Merge merge) = row_words_in 8 merge.level merge.next (unwrap_or merge.right 0) merge.low merge.high merge.items
  words_of_in (Unterm unterm) = row_words_in 9 unterm.level unterm.next unterm.child unterm.separator (Some []) []

-- the words of today's rows
abbrev pub field_words : List ℕ → List ℕ
field_words = field_words_in this_form

abbrev pub bound_words : Option (List ℕ) → List ℕ
bound_words = bound_words_in this_form

abbrev pub content_words : Content → List ℕ
content_words = content_words_in this_form

abbrev pub item_words : Item → List ℕ
item_words = item_words_in this_form

abbrev pub items_words : List Item → List ℕ
items_words = items_words_in this_form

abbrev pub words_left : ℕ → ℕ
words_left = words_left_in this_form

abbrev pub row_words : ℕ → ℕ → ℕ → ℕ → List ℕ → Option (List ℕ) → List Item → List ℕ
row_words = row_words_in this_form

abbrev pub words_of : Record → List ℕ
words_of = words_of_in this_form
