-- How long the words for a range are, how they come together, and that they end in their box.
use Rattle.std.proofs.Common.{◌≡◌, ◌≤◌, ◌<◌, ◌^◌, ℕ, zero, suc, List, [], ◌∷◌, ◌++◌, Bool, true, false, Option, Some, None, ap, append_assoc, arith, length, take, ◌∙◌}
use Rattle.std.specs.Prelude.{codes, decimal, if◌then◌else◌, nat_lt, ◌==◌}
use Rattle.std.proofs.lemmas.List.{length-append}
use Rattle.std.proofs.lemmas.Fmt.{length-decimal-le}
use Rattle.base_page.specs.declared.item.Content.TheVariants.{Value, Child}
use Rattle.base_page.specs.declared.item.Item.{Item}
use Rattle.base_page.specs.Pages.{Page}
use Rattle.deltas.specs.declared.record.Record.{Record}
use Rattle.deltas.specs.declared.record.Record.TheVariants.{Base, Put, Delete, Merge}
use Rattle.deltas.specs.declared.record.Delete.{Delete as DeleteOf}
use Rattle.deltas.specs.declared.record.Put.{Put as PutOf}
use Rattle.deltas.specs.declared.record.Merge.{Merge as MergeOf}
use Rattle.hex.specs.Hex.{encode_lower, lower_digits}
use Rattle.hex.proofs.HexLemmas.{length-encode_with}
use Rattle.shell_lines.specs.Token.{is_word}
use Rattle.tree_picture.specs.Adding.{Adds}
use Rattle.tree_picture.specs.declared.shape.Mark.{Mark}
use Rattle.tree_picture.specs.declared.shape.Mark.TheVariants.{Termed, Termless, Held, Removed}
use Rattle.tree_picture.specs.Ranges.{dots, end_text, key_text, range_text, short_token}
use Rattle.tree_picture.specs.RecordLines.{child_text, content_text, held_text, item_text, record_text}
use Rattle.tree_picture.specs.declared.slots.Slot.{Slot}
use Rattle.tree_picture.specs.SlotTexts.{kind_text, slot_text}
use Rattle.tree_picture.specs.Texts.{EndInBox, mark_text, name_text}

pub adds_then : (old middle new more last : List ℕ) → Adds old middle more → Adds middle new last → Adds old new (more ++ last)
adds_then old middle new more last one two = λ fits.
    let long = length-append more last in
    let first : middle ≡ old ++ more = one (omega (arith, fits, long)) in
    two (omega (arith, fits, long, ap length first, length-append old more)) ∙ ap (λ (words : List ℕ). words ++ last) first ∙ append_assoc old more last

few_taken : (many : ℕ) (bytes : List ℕ) → length (take many bytes) ≤ many
few_taken zero bytes = omega arith
few_taken (suc many) [] = omega arith
few_taken (suc many) (b ∷ bytes) = omega (arith, few_taken many bytes)

few_dots : (many : ℕ) (bytes : List ℕ) → length (dots many bytes) ≤ 2
few_dots many bytes = go (nat_lt many (length bytes))
  where
    go : (more : Bool) → length (if more then codes ".." else []) ≤ 2
    go true = omega arith
    go false = omega arith

few_short : (bytes : List ℕ) → length (short_token bytes) ≤ 13
few_short bytes = go (is_word bytes)
  where
    go : (word : Bool) → length (if word then take 10 bytes ++ dots 10 bytes else codes "=" ++ encode_lower (take 5 bytes) ++ dots 5 bytes) ≤ 13
    go true = omega (arith, length-append (take 10 bytes) (dots 10 bytes), few_taken 10 bytes, few_dots 10 bytes)
    go false = omega (arith, length-append (encode_lower (take 5 bytes)) (dots 5 bytes), length-encode_with lower_digits (take 5 bytes), few_taken 5 bytes, few_dots 5 bytes)

few_key : (key : List ℕ) → length (key_text key) ≤ 13
few_key [] = omega arith
few_key (b ∷ bytes) = few_short (b ∷ bytes)

few_end : (high : Option (List ℕ)) → length (end_text high) ≤ 17
few_end (Some high) = omega (arith, few_key high)
few_end None = omega arith

few_held : (held : Bool) → length (held_text held) ≤ 6
few_held true = omega arith
few_held false = omega arith

pub few_value : (value : List ℕ) → length (content_text (Value value)) ≤ 30
few_value value = omega (arith, few_short value)

pub few_child : (page : ℕ) (held : Bool) → page < 2 ^ 32 → length (content_text (Child page held)) ≤ 30
few_child page held small =
    omega (
      arith,
      length-append (codes " to PID " ++ decimal page) (held_text held),
      length-append (codes " to PID ") (decimal page),
      length-decimal-le 10 page (omega arith) (omega (arith, small)) (omega (arith, small)),
      few_held held,
    )

pub few_child_text : (separator : List ℕ) (child : ℕ) → child < 2 ^ 32 → length (child_text separator child) ≤ 31
few_child_text separator child small =
    omega (
      arith,
      length-append (key_text separator) (codes " to PID " ++ decimal child),
      few_key separator,
      length-append (codes " to PID ") (decimal child),
      length-decimal-le 10 child (omega arith) (omega (arith, small)) (omega (arith, small)),
    )

pub few_base : (page : Page) → length page.items ≤ 24 → length (record_text (Base page)) ≤ 50
few_base page few =
    omega (
      arith,
      length-append (codes "base, items: ") (decimal (length page.items)),
      length-decimal-le 2 (length page.items) (omega arith) (omega (arith, few)) (omega (arith, few)),
    )

pub few_delete : (delete : DeleteOf) → length (record_text (Delete delete)) ≤ 50
few_delete delete = omega (arith, length-append (codes "delete ") (key_text delete.key), few_key delete.key)

pub few_put : (put : PutOf) → length (record_text (Put put)) ≤ 50
few_put put =
    omega (
      arith,
      length-append (codes "put " ++ key_text put.key) (codes " = " ++ short_token put.value),
      length-append (codes "put ") (key_text put.key),
      few_key put.key,
      length-append (codes " = ") (short_token put.value),
      few_short put.value,
    )

-- the words for a record have room
pub record_fits : (one : Record) (words : List ℕ) → length (record_text one) ≤ 50 → Adds [] words (record_text one) → words ≡ record_text one
record_fits one words short adds = adds (omega (arith, short))

-- the words for an item have room
pub item_fits : (item : Item) (words : List ℕ) → length (content_text item.content) ≤ 30 → Adds [] words (item_text item) → words ≡ item_text item
item_fits item words short adds = adds (omega (arith, length-append (key_text item.key) (content_text item.content), few_key item.key, short))

-- the words for a range have room
range_fits : (low : List ℕ) (high : Option (List ℕ)) → length (range_text low high) ≤ 35
range_fits low high = omega (arith, length-append (key_text low) (end_text high), few_key low, few_end high)

pub few_merge : (merge : MergeOf) → length (record_text (Merge merge)) ≤ 50
few_merge merge = omega (arith, length-append (codes "merge ") (range_text merge.low merge.high), range_fits merge.low merge.high)

few_marked : (mark : Mark) → length (mark_text mark) ≤ 7
few_marked Termed = omega arith
few_marked Termless = omega arith
few_marked Held = omega arith
few_marked Removed = omega arith

few_named : (pid : ℕ) → pid < 2 ^ 32 → length (name_text pid) ≤ 14
few_named pid small = omega (arith, length-append (codes "PID ") (decimal pid), length-decimal-le 10 pid (omega arith) (omega (arith, small)) (omega (arith, small)))

-- texts that are no longer end in the box of a page
pub ends_in_box : (pid : ℕ) (mark : Mark) (range : List ℕ) → pid < 2 ^ 32 → length range ≤ 35 → EndInBox 236 pid mark range
ends_in_box pid mark range small few = record {
  named = let long = few_named pid small in omega (arith, long);
  marked = let long = few_marked mark in omega (arith, long);
  ranged = omega (arith, few);
}

pub page_ends : (pid : ℕ) (mark : Mark) (words low : List ℕ) (high : Option (List ℕ)) → pid < 2 ^ 32 → words ≡ range_text low high → EndInBox 236 pid mark words
page_ends pid mark words low high small are = ends_in_box pid mark words small (let fits = range_fits low high in let same = ap length are in omega (arith, fits, same))

-- the words, where none stood before
pub whole_range : (old words low low_now : List ℕ) (high high_now : Option (List ℕ)) → Adds old words (range_text low high) → old ≡ [] → low ≡ low_now
    → high ≡ high_now → words ≡ range_text low_now high_now
whole_range old words low low_now high high_now adds none low_is high_is =
    adds (omega (arith, range_fits low high, ap length none)) ∙ ap (λ (first : List ℕ). first ++ range_text low high) none
    ∙ ap (λ (key : List ℕ). range_text key high) low_is ∙ ap (λ (key : Option (List ℕ)). range_text low_now key) high_is

few_kind : (number : ℕ) → length (kind_text number) ≤ 6
few_kind number = go (number == 0)
  where
    go : (first : Bool) → length (if first then codes ": PID " else codes ": row ") ≤ 6
    go true = omega arith
    go false = omega arith

-- the words for a slot have room
pub slot_fits : (slot : Slot) (words : List ℕ) → slot.number < 2 ^ 32 → slot.content < 2 ^ 32 → Adds [] words (slot_text slot) → words ≡ slot_text slot
slot_fits slot words small low adds =
    adds (omega (
      arith,
      length-append (codes "slot " ++ decimal slot.number) (kind_text slot.number ++ decimal slot.content),
      length-append (codes "slot ") (decimal slot.number),
      length-append (kind_text slot.number) (decimal slot.content),
      few_kind slot.number,
      length-decimal-le 10 slot.number (omega arith) (omega (arith, small)) (omega (arith, small)),
      length-decimal-le 10 slot.content (omega arith) (omega (arith, low)) (omega (arith, low)),
    ))
