-- The words of items.
use Rattle.std.proofs.Common.{◌≡◌, ◌<◌, ◌≤◌, ◌+◌, ◌*◌, ◌-◌, ℕ, zero, suc, Bool, true, false, List, [], ◌∷◌, ◌++◌, length, get_or, take, drop, refl, sym, ap}
use Rattle.std.proofs.Common.{◌∙◌, arith, append_assoc, length-append, length-drop}
use Rattle.std.specs.Prelude.{if◌then◌else◌}
use Rattle.std.specs.List.{All}
use Rattle.std.proofs.lemmas.List.Elements.{All-head, All-tail}
use Rattle.std.proofs.lemmas.List.{drop_more, take_all, take-append-drop}
use Rattle.std.proofs.Math.Seq.{take-append_seam, drop-append-add}
use Rattle.base_page.specs.declared.item.Content.{Content}
use Rattle.base_page.specs.declared.item.Content.TheVariants.{Value, Child}
use Rattle.base_page.specs.declared.item.Item.{Item}
use Rattle.base_page.specs.Rules.{is_held}
use Rattle.bw_model.specs.Bytes.{longest}
use Rattle.record_slots.specs.Layout.{field_size, held_mark, item_size, text_size}
use Rattle.record_slots.specs.Spelling.{text_words, field_words, content_words, item_words, items_words}
use Rattle.record_slots.specs.Texts.{IsText}
use Rattle.record_slots.specs.Parts.{IsItem, IsItemIn, AreItemsIn}
use Rattle.record_slots.proofs.ListLaws.{take_more}

pub key_text : (level : ℕ) (words : List ℕ) (item : Item) → IsItemIn level words item → IsText (length item.key) (take text_size (drop 1 words)) item.key
key_text level words item h = record { short = h.is.short.0; counts = refl; are = ap (λ ws. take text_size (drop 1 ws)) h.are }

pub key_count : (level : ℕ) (words : List ℕ) (item : Item) → IsItemIn level words item → get_or words 0 0 ≡ length item.key + (if is_held item.content then held_mark else 0)
key_count level words item h = ap (λ ws. get_or ws 0 0) (sym h.are)

pub marked : (held : Bool) (count first : ℕ) → count ≤ longest → first ≡ count + (if held then held_mark else 0) → held_mark ≤ first → count ≡ first - held_mark
marked true count first few is high = omega arith
marked false count first few is high = absurd (omega arith)

pub unmarked : (held : Bool) (count first : ℕ) → count ≤ longest → first ≡ count + (if held then held_mark else 0) → first < held_mark → count ≡ first
unmarked true count first few is low = absurd (omega arith)
unmarked false count first few is low = omega arith

content_size : (content : Content) → length (content_words content) ≡ field_size
content_size (Value value) = refl
content_size (Child page held) = refl

pub item_long : (item : Item) → length (item_words item) ≡ item_size
item_long item =
    let c = content_size item.content in
    let l = length-append (text_words text_size item.key) (content_words item.content) in
    let t : length (text_words text_size item.key) ≡ text_size = refl in
    omega arith

pub items_length : (items : List Item) → length (items_words items) ≡ item_size * length items
items_length [] = refl
items_length (item ∷ items) = let t = item_long item in let r = items_length items in let l = length-append (item_words item) (items_words items) in omega arith

items_append : (xs ys : List Item) → items_words (xs ++ ys) ≡ items_words xs ++ items_words ys
items_append [] ys = refl
items_append (x ∷ xs) ys = ap (λ ws. item_words x ++ ws) (items_append xs ys) ∙ sym (append_assoc (item_words x) (items_words xs) (items_words ys))

append_nothing : (xs : List ℕ) → xs ++ [] ≡ xs
append_nothing [] = refl
append_nothing (x ∷ xs) = ap (λ ys. x ∷ ys) (append_nothing xs)

-- one item more has its words more
pub items_grow : (level place : ℕ) (words : List ℕ) (front now : List Item) (item : Item) → now ≡ front ++ item ∷ [] → items_words front ≡ take (item_size * place) words
    → IsItemIn level (take (item_size * place + item_size - item_size * place) (drop (item_size * place) words)) item → items_words now ≡ take (item_size * (place + 1)) words
items_grow level place words front now item grown before h =
    let one : item_size * place + item_size - item_size * place ≡ item_size = omega arith in
    let last : item_words item ≡ take item_size (drop (item_size * place) words) = h.are ∙ ap (λ n. take n (drop (item_size * place) words)) one in
    let split = take_more (item_size * place) item_size (item_size * (place + 1)) words (omega arith) in
    ap items_words grown ∙ items_append front (item ∷ []) ∙ (λ i. before i ++ (append_nothing (item_words item) ∙ last) i) ∙ sym split

pub first_words : (item : Item) (rest : List ℕ) → take item_size (item_words item ++ rest) ≡ item_words item
first_words item rest = ap (λ n. take n (item_words item ++ rest)) (sym (item_long item)) ∙ take-append_seam (item_words item) rest

pub behind_words : (item : Item) (rest : List ℕ) (place : ℕ) → drop (item_size * suc place) (item_words item ++ rest) ≡ drop (item_size * place) rest
behind_words item rest place =
    let t = item_long item in
    let e : item_size * suc place ≡ length (item_words item) + item_size * place = omega arith in
    ap (λ n. drop n (item_words item ++ rest)) e ∙ drop-append-add (item_words item) rest (item_size * place)

item_there : (level place : ℕ) (items : List Item) → place < length items → All (IsItem level) items
    → (item : Item) × IsItemIn level (take item_size (drop (item_size * place) (items_words items))) item
item_there level place [] within each = absurd (omega arith)
item_there level zero (item ∷ items) within each = (item, record { is = All-head (IsItem level) item items each; are = sym (first_words item (items_words items)) })
item_there level (suc place) (item ∷ items) within each =
    let r = item_there level place items (omega arith) (All-tail (IsItem level) item items each) in
    (r.0, record { is = r.1.is; are = r.1.are ∙ ap (take item_size) (sym (behind_words item (items_words items) place)) })

-- where no item has its part of the words, no items have the words
pub no_items : (level count place : ℕ) (words : List ℕ) → place < count
    → ((item : Item) → IsItemIn level (take (item_size * place + item_size - item_size * place) (drop (item_size * place) words)) item → ⊥)
    → (items : List Item) → AreItemsIn level count words items → ⊥
no_items level count place words within none items are =
    let there = item_there level place items (let c = are.counts in omega arith) are.each in
    let one : item_size ≡ item_size * place + item_size - item_size * place = omega arith in
    none there.0 (record { is = there.1.is; are = there.1.are ∙ (λ i. take (one i) (drop (item_size * place) (are.are i))) })

-- the words of a key's value are two fields
pub pair_spelled : (words key value : List ℕ) → length words ≡ item_size → field_words key ≡ take field_size words → length value ≡ get_or words field_size 0
    → text_words text_size value ≡ take text_size (drop (suc field_size) words)
    → items_words (record { key = key; content = Value value } ∷ []) ≡ words
pair_spelled words key value all first count second =
    let unmarked : length key + 0 ≡ length key = omega arith in
    let left = length-drop (suc field_size) words in
    let whole : take text_size (drop (suc field_size) words) ≡ drop (suc field_size) words = take_all text_size (drop (suc field_size) words) (omega (arith, left, all)) in
    let behind : drop field_size words ≡ get_or words field_size 0 ∷ drop (suc field_size) words = drop_more words field_size 0 (omega (arith, all)) in
    let value_is : field_words value ≡ drop field_size words = (λ t. count t ∷ (second ∙ whole) t) ∙ sym behind in
    append_nothing (item_words (record { key = key; content = Value value }))
    ∙ (λ t. unmarked t ∷ (text_words text_size key ++ field_words value))
    ∙ (λ t. first t ++ value_is t)
    ∙ take-append-drop field_size words
