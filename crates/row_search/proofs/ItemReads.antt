-- What an item of a row has, read from its words.
use Rattle.std.proofs.Common.{◌≡◌, suc, ◌==◌, ◌<◌, ◌≤◌, ◌+◌, ◌*◌, ◌%◌, ℕ, false, List, length, get_or, take, drop, refl, sym, ap, subst, ◌∙◌, arith}
use Rattle.std.specs.Prelude.{if◌then◌else◌, nat_le, ◌-◌, Option, Some, None, IfSome}
use Rattle.row_search.proofs.Words.{eqb-true, false_from_ne_true, get_or-drop, drop-drop, Content, Value, Child, Item, IsOfLevel, Record, field_size, held_mark, item_size, items_at}
use Rattle.row_search.proofs.Words.{no_bound, second_at, text_size, IsItem, row_of, items_of, IsShort, bound_words, content_words, item_words, IsShortContent, IsSpelling, IsText, bytes_of}
use Rattle.row_search.proofs.Words.{items_fit, read_back, field_in, item_in}
use Rattle.bw_model.specs.Bytes.{longest}
use Rattle.deltas.specs.Spellable.{HasPid}
use Rattle.row_search.proofs.ItemTexts.{item_stands, item_text, window}
use Rattle.row_search.proofs.ReadingLaws.{content_of, item_read}
use Rattle.row_search.proofs.RowTexts.{first_of, stands, text_at}

-- a text by its words
pub text_is : (count : ℕ) (words text : List ℕ) → IsText count words text → take count (bytes_of words) ≡ text
text_is count words text h =
    (λ i. take (sym h.counts i) (bytes_of (sym h.are i))) ∙ (read_back text_size text h.short.bytes_fit (let s = h.short.short in omega arith)).are

pub text_same : (count : ℕ) (words one other : List ℕ) → IsText count words one → IsText count words other → one ≡ other
text_same count words one other h g = sym (text_is count words one h) ∙ text_is count words other g

-- a text whose count was looked at
pub few_there : {words text : List ℕ} {count found : ℕ} → found ≡ count → IsText count words text → found ≤ longest
few_there e is = let s = is.short.short in let n = is.counts in omega (arith, e)

pub text_there : {words text : List ℕ} {count found : ℕ} → found ≡ count → IsText count words text → take found (bytes_of words) ≡ text
text_there {words = words} {text = text} {count = count} e is = ap (λ n. take n (bytes_of words)) e ∙ text_is count words text is

pub text_stands : (count : ℕ) (words text : List ℕ) → IsText count words text → IsText count words (take count (bytes_of words))
text_stands count words text h = subst (IsText count words) (sym (text_is count words text h)) h

-- the key of an item
pub key_text : (words : List ℕ) (content : Record) → IsSpelling content words → (place : ℕ) (d : Item) → place < length (items_of content) → (here : ℕ) → here ≡ items_at + item_size * place
    → IsText (get_or words here 0 % held_mark) (take text_size (drop (here + 1) words)) (get_or (items_of content) place d).key
key_text words content h place d within here e =
    rw e (item_text words (items_of content) (stands words content h) place d within)

abbrev page_word : Content → ℕ
page_word (Value value) = 0
page_word (Child page held) = page

small_page : (content : Content) → HasPid content → page_word content < 4194304
small_page (Value value) h = omega arith
small_page (Child page held) h = h.1

module _ (words : List ℕ) (content : Record) (h : IsSpelling content words) (place : ℕ) (d : Item) (within : place < length (items_of content)) where
  abbrev item : Item
  item = get_or (items_of content) place d

  abbrev at : ℕ
  at = items_at + item_size * place

  is : IsItem (row_of content).level item
  is = items_fit content h.spellable h.short place d within

  item_here : take item_size (drop at words) ≡ item_words item
  item_here = item_stands words (items_of content) (stands words content h) place d within

  read : item_in (row_of content).level (drop at words) ≡ item
  read = item_read (row_of content).level item (drop at words) is item_here

  swapped : at + field_size ≡ field_size + at
  swapped = omega arith

  first_word : get_or (drop at words) 0 0 ≡ get_or words at 0
  first_word = let e : at + 0 ≡ at = omega arith in get_or-drop at words 0 0 ∙ ap (λ k. get_or words k 0) e

  pub child_there : 0 < (row_of content).level → Child (get_or words (at + field_size) 0) (nat_le held_mark (get_or words at 0)) ≡ item.content
  child_there above =
      let index : ((row_of content).level == 0) ≡ false = false_from_ne_true ((row_of content).level == 0)
      (λ is. let z : (row_of content).level ≡ 0 = eqb-true (row_of content).level 0 is in omega arith) in
      (λ i. Child (sym (get_or-drop at words field_size 0) i) (nat_le held_mark (sym first_word i)))
      ∙ ap (λ b. if b then Value (field_in (drop field_size (drop at words))) else Child (get_or (drop at words) field_size 0) (nat_le held_mark (get_or (drop at words) 0 0))) (sym index)
      ∙ ap (λ (one : Item). one.content) read

  pub page_fits : 0 < (row_of content).level → get_or words (at + field_size) 0 < 4194304
  page_fits above = rw (ap page_word (child_there above)) (small_page item.content is.child)

  content_stands : take field_size (drop (at + field_size) words) ≡ content_words item.content
  content_stands =
      ap (take field_size) (sym (drop-drop field_size at words)) ∙ sym (window field_size field_size item_size (drop at words) (omega arith))
      ∙ ap (λ ws. take field_size (drop field_size ws)) item_here ∙ content_of item.content

  text_of : (content : Content) → IsShortContent content → IsOfLevel 0 content → take field_size (drop (at + field_size) words) ≡ content_words content
      → (value : List ℕ) × ((Value value ≡ content) × IsText (get_or words (at + field_size) 0) (take text_size (drop (at + suc field_size) words)) value)
  text_of (Value value) short leaf e =
      let next : at + field_size + 1 ≡ at + suc field_size = omega arith in
      (value, (refl, rw (← next) (text_at value words (at + field_size) short (sym e))))
  text_of (Child page held) short leaf e = absurd (omega arith)

  -- the value of a leaf's item is a text, and what is read as one is that value
  pub value_there : (row_of content).level ≡ 0 → (value : List ℕ) × ((Value value ≡ item.content) × IsText (get_or words (at + field_size) 0) (take text_size (drop (at + suc field_size) words)) value)
  value_there leaf = text_of item.content is.short.1 (rw (← leaf) is.kind) content_stands

-- what stands at a place
pub marked : (words : List ℕ) (here other : ℕ) → here ≡ other
    → Child (get_or words (here + field_size) 0) (nat_le held_mark (get_or words here 0)) ≡ Child (get_or words (other + field_size) 0) (nat_le held_mark (get_or words other 0))
marked words here other e = λ i. Child (get_or words (e i + field_size) 0) (nat_le held_mark (get_or words (e i) 0))

-- the words that a slice of an item's words gives
module _ (words : List ℕ) (from to here other : ℕ) (text : List ℕ) (e : here ≡ other) (f : from ≡ here + suc field_size) (g : to ≡ here + item_size) where
  count : get_or words (here + field_size) 0 ≡ get_or words (other + field_size) 0
  count = λ i. get_or words (e i + field_size) 0

  text_stands_at : take (to - from) (drop from words) ≡ take text_size (drop (other + suc field_size) words)
  text_stands_at =
      let n : to - from ≡ text_size = omega arith in
      let m : from ≡ other + suc field_size = omega arith in
      λ i. take (n i) (drop (m i) words)

  pub from_slice : IsText (get_or words (here + field_size) 0) (take (to - from) (drop from words)) text
      → IsText (get_or words (other + field_size) 0) (take text_size (drop (other + suc field_size) words)) text
  from_slice h = rw (← count) (rw (← text_stands_at) h)

  pub to_slice : IsText (get_or words (other + field_size) 0) (take text_size (drop (other + suc field_size) words)) text
      → IsText (get_or words (here + field_size) 0) (take (to - from) (drop from words)) text
  to_slice h = rw count (rw text_stands_at h)

pub second_there : (words : List ℕ) (second : Option (List ℕ)) → IfSome second IsShort → bound_words second ≡ take field_size (drop second_at words) → (get_or words second_at 0 ≡ no_bound → ⊥)
    → (text : List ℕ) → IsText (get_or words second_at 0) (take text_size (drop (suc second_at) words)) text → Some text ≡ second
second_there words None short e bounded text h = absurd (bounded (sym (get_or-drop second_at words 0 0) ∙ sym (first_of text_size (drop second_at words)) ∙ ap (λ ws. get_or ws 0 0) (sym e)))
second_there words (Some other) short e bounded text h =
    ap Some (text_same (get_or words second_at 0) (take text_size (drop (suc second_at) words)) text other h (text_at other words second_at short e))

pub second_text : (words : List ℕ) (second : Option (List ℕ)) → IfSome second IsShort → bound_words second ≡ take field_size (drop second_at words) → (get_or words second_at 0 ≡ no_bound → ⊥)
    → (text : List ℕ) × IsText (get_or words second_at 0) (take text_size (drop (suc second_at) words)) text
second_text words None short e bounded = absurd (bounded (sym (get_or-drop second_at words 0 0) ∙ sym (first_of text_size (drop second_at words)) ∙ ap (λ ws. get_or ws 0 0) (sym e)))
second_text words (Some text) short e bounded = (text, text_at text words second_at short e)
