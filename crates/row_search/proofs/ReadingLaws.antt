-- What is read of the words of a record is that record.
use Rattle.std.proofs.Common.{◌≡◌, ◌-◌, ◌==◌, ◌<◌, ◌≤◌, ◌+◌, ◌*◌, ◌/◌, ◌%◌, ℕ, zero, suc, Bool, true, false, List, [], ◌∷◌, length, get_or, take, drop, refl, sym, ap, ◌∙◌, arith}
use Rattle.std.specs.Prelude.{Option, Some, None, IfSome, if◌then◌else◌, nat_le, unwrap_or}
use Rattle.std.specs.List.{All}
use Rattle.std.proofs.lemmas.Bool.{eqb-true, leb-true, leb-false, false_from_ne_true, true_from_ne_false}
use Rattle.std.proofs.Math.Dec.{eqb-suc-zero}
use Rattle.row_search.proofs.Words.{get_or-drop, IsShort, longest, Content, Value, Child, Item, IsOfLevel, is_held, IsPid, IsSpellable, Record, text_words, field_words, bound_words}
use Rattle.row_search.proofs.Words.{content_words, item_words, items_words, IsShortContent, IsSpelling, bytes_of, IsItem, row_of, items_of, first_words, behind_words, counts, items_fit}
use Rattle.row_search.proofs.Words.{items_spelled, row_spelled, read_back}
use Rattle.std.proofs.lemmas.List.Elements.{All-head, All-tail}
use Rattle.deltas.specs.declared.record.Record.TheVariants.{Base, Merge}
use Rattle.record_slots.specs.Layout.{count_unit, field_size, first_at, held_mark, item_size, items_at, level_unit, no_bound, part_limit, second_at, text_size}
use Rattle.row_search.specs.Reading.{text_in, field_in, bound_in, page_or_none, item_in, items_in, record_from, record_in}
use Rattle.row_search.proofs.ItemTexts.{unmarked, window}

-- a text that stands first in some words
pub text_read : (text words : List ℕ) → IsShort text → take text_size words ≡ text_words text_size text → text_in (length text) words ≡ text
text_read text words short e = ap (λ ws. take (length text) (bytes_of ws)) e ∙ (read_back text_size text short.bytes_fit (let s = short.short in omega arith)).are

first_of : (n : ℕ) (xs : List ℕ) → get_or (take (suc n) xs) 0 0 ≡ get_or xs 0 0
first_of n [] = refl
first_of n (x ∷ xs) = refl

pub field_read : (text words : List ℕ) → IsShort text → field_words text ≡ take field_size words → field_in words ≡ text
field_read text words short e =
    let count : get_or words 0 0 ≡ length text = sym (first_of text_size words) ∙ ap (λ ws. get_or ws 0 0) (sym e) in
    let text_stands_at : take text_size (drop 1 words) ≡ text_words text_size text = sym (window text_size 1 field_size words (omega arith)) ∙ ap (λ ws. take text_size (drop 1 ws)) (sym e) in
    ap (λ n. text_in n (drop 1 words)) count ∙ text_read text (drop 1 words) short text_stands_at

bound_read : (bound : Option (List ℕ)) (words : List ℕ) → IfSome bound IsShort → bound_words bound ≡ take field_size words → bound_in words ≡ bound
bound_read None words short e =
    let count : get_or words 0 0 ≡ no_bound = sym (first_of text_size words) ∙ ap (λ ws. get_or ws 0 0) (sym e) in
    ap (λ n. if n == no_bound then None else Some (field_in words)) count
bound_read (Some text) words short e =
    let count : get_or words 0 0 ≡ length text = sym (first_of text_size words) ∙ ap (λ ws. get_or ws 0 0) (sym e) in
    let few = short.short in
    let none : (get_or words 0 0 == no_bound) ≡ false = false_from_ne_true (get_or words 0 0 == no_bound)
    (λ is. let e : get_or words 0 0 ≡ no_bound = eqb-true (get_or words 0 0) no_bound is in omega arith) in
    ap (λ b. if b then None else Some (field_in words)) none ∙ ap Some (field_read text words short e)

right_read : (right : Option ℕ) → IfSome right IsPid → page_or_none (unwrap_or right 0) ≡ right
right_read None h = refl
right_read (Some zero) h = let some = h.0 in absurd (omega arith)
right_read (Some (suc page)) h = ap (λ b. if b then None else Some (suc page)) (eqb-suc-zero page)

held_read : (held : Bool) (count word : ℕ) → count ≤ longest → word ≡ count + (if held then held_mark else 0) → nat_le held_mark word ≡ held
held_read true count word few e = true_from_ne_false (nat_le held_mark word) (λ is. let l : word < held_mark = leb-false held_mark word is in omega arith)
held_read false count word few e = false_from_ne_true (nat_le held_mark word) (λ is. let l : held_mark ≤ word = leb-true held_mark word is in omega arith)

content_read : (level : ℕ) (content : Content) (words : List ℕ) → IsShortContent content → IsOfLevel level content
    → nat_le held_mark (get_or words 0 0) ≡ is_held content → take field_size (drop field_size words) ≡ content_words content
    → (if level == 0 then Value (field_in (drop field_size words)) else Child (get_or words field_size 0) (nat_le held_mark (get_or words 0 0))) ≡ content
content_read level (Value value) words short leaf held e =
    ap (λ l. if l == 0 then Value (field_in (drop field_size words)) else Child (get_or words field_size 0) (nat_le held_mark (get_or words 0 0))) leaf
    ∙ ap Value (field_read value (drop field_size words) short (sym e))
content_read level (Child page mark) words short index held e =
    let above : (level == 0) ≡ false = false_from_ne_true (level == 0) (λ is. let z : level ≡ 0 = eqb-true level 0 is in omega (arith, index)) in
    let pid : get_or words field_size 0 ≡ page = sym (get_or-drop field_size words 0 0) ∙ sym (first_of text_size (drop field_size words)) ∙ ap (λ ws. get_or ws 0 0) e in
    ap (λ b. if b then Value (field_in (drop field_size words)) else Child (get_or words field_size 0) (nat_le held_mark (get_or words 0 0))) above
    ∙ (λ i. Child (pid i) (held i))

pub content_of : (content : Content) → take field_size (content_words content) ≡ content_words content
content_of (Value value) = refl
content_of (Child page held) = refl

pub item_read : (level : ℕ) (item : Item) (words : List ℕ) → IsItem level item → take item_size words ≡ item_words item → item_in level words ≡ item
item_read level item words is e =
    let first : get_or words 0 0 ≡ length item.key + (if is_held item.content then held_mark else 0) = sym (first_of (item_size - 1) words) ∙ ap (λ ws. get_or ws 0 0) e in
    let few = is.short.0.short in
    let count : get_or words 0 0 % held_mark ≡ length item.key = ap (λ n. n % held_mark) first ∙ unmarked (is_held item.content) (length item.key) few in
    let text_stands_at : take text_size (drop 1 words) ≡ text_words text_size item.key = sym (window text_size 1 item_size words (omega arith)) ∙ ap (λ ws. take text_size (drop 1 ws)) e in
    let key : text_in (get_or words 0 0 % held_mark) (drop 1 words) ≡ item.key = ap (λ n. text_in n (drop 1 words)) count ∙ text_read item.key (drop 1 words) is.short.0 text_stands_at in
    let content_stands : take field_size (drop field_size words) ≡ take field_size (content_words item.content) = sym
    (window field_size field_size item_size words (omega arith)) ∙ ap (λ ws. take field_size (drop field_size ws)) e in
    let content = content_read level item.content words is.short.1 is.kind (held_read (is_held item.content) (length item.key) (get_or words 0 0) few first)
    (content_stands ∙ content_of item.content) in
    λ i. record { key = key i; content = content i }

drop_take : (a n k : ℕ) (xs : List ℕ) → k ≡ a + n → drop a (take k xs) ≡ take n (drop a xs)
drop_take zero n k xs e = let f : k ≡ n = omega arith in ap (λ j. take j xs) f
drop_take (suc a) n zero xs e = absurd (omega arith)
drop_take (suc a) zero (suc k) [] e = refl
drop_take (suc a) (suc n) (suc k) [] e = refl
drop_take (suc a) n (suc k) (x ∷ xs) e = drop_take a n k xs (omega arith)

items_read : (level : ℕ) (items : List Item) (words : List ℕ) → All (IsItem level) items → items_words items ≡ take (item_size * length items) words → items_in level (length items) words ≡ items
items_read level [] words each e = refl
items_read level (item ∷ items) words each e =
    let n : ℕ = length items in
    let item_here : take item_size words ≡ item_words item = sym (window item_size 0 (item_size * suc n) words (omega arith)) ∙ ap (take item_size) (sym e) ∙ first_words item (items_words items) in
    let behind : items_words items ≡ take (item_size * n) (drop item_size words) = sym (behind_words item (items_words items) 0) ∙ ap (drop item_size) e ∙
    drop_take item_size (item_size * n) (item_size * suc n) words (omega arith) in
    let first = item_read level item words (All-head (IsItem level) item items each) item_here in
    let rest = items_read level items (drop item_size words) (All-tail (IsItem level) item items each) behind in
    λ i. first i ∷ rest i

from_parts : (content : Record) → IsSpellable content
    → record_from (row_of content).kind (row_of content).level (row_of content).next (row_of content).page (row_of content).first (row_of content).second (items_of content) ≡ content
from_parts (Base page) h = λ i. Base (record { level = page.level; low = page.low; high = page.high; right = right_read page.right h.right i; removed = sym h.alive i; items = page.items })
from_parts (Merge merge) h = λ i. Merge (record { level = merge.level; next = merge.next; low = merge.low; high = merge.high; right = right_read merge.right h.3.right i; items = merge.items })
from_parts content h = refl

-- a record is read from the words that spell it
pub reading : (words : List ℕ) (content : Record) → IsSpelling content words → record_in words ≡ content
reading words content h =
    let is = row_spelled words content h in
    let first = is.header in
    let small = is.is.kind in
    let top = is.is.level in
    let kind : get_or words 0 0 % part_limit ≡ (row_of content).kind = omega arith in
    let level : get_or words 0 0 / level_unit % part_limit ≡ (row_of content).level = omega arith in
    let count : get_or words 0 0 / count_unit % part_limit ≡ (row_of content).count = omega arith in
    let low = field_read (row_of content).first (drop first_at words) is.is.first is.first in
    let high = bound_read (row_of content).second (drop second_at words) is.is.second is.second in
    let many : (row_of content).count ≡ length (items_of content) = sym (counts content) in
    let items = items_read (row_of content).level (items_of content) (drop items_at words) (items_fit content h.spellable h.short)
    (items_spelled words content h ∙ ap (λ n. take (item_size * n) (drop items_at words)) many) in
    (λ i. record_from (kind i) (level i) (sym is.next i) (sym is.page i) (low i) (high i) (items_in (level i) (count i) (drop items_at words)))
    ∙ ap (λ n. record_from (row_of content).kind (row_of content).level (row_of content).next (row_of content).page (row_of content).first
    (row_of content).second (items_in (row_of content).level n (drop items_at words))) many
    ∙ ap (record_from (row_of content).kind (row_of content).level (row_of content).next (row_of content).page (row_of content).first (row_of content).second) items
    ∙ from_parts content h.spellable

-- what spells a record spells the record that is read of it
pub kept : (words : List ℕ) (content : Record) → IsSpelling content words → IsSpelling (record_in words) words
kept words content h = rw (reading words content h) h
