-- Words have one row at most.
use Rattle.std.proofs.Common.{◌≡◌, ◌≤◌, ◌+◌, ℕ, Bool, true, false, List, [], ◌∷◌, length, get_or, take, drop, refl, sym, ap, ◌∙◌, arith}
use Rattle.std.specs.Prelude.{Option, Some, None, IfSome, if◌then◌else◌}
use Rattle.std.specs.List.{All}
use Rattle.std.proofs.lemmas.List.Elements.{All-head, All-tail}
use Rattle.bw_model.specs.Bytes.{IsShort, longest}
use Rattle.base_page.specs.declared.item.Content.{Content}
use Rattle.base_page.specs.declared.item.Content.TheVariants.{Value, Child}
use Rattle.base_page.specs.declared.item.Item.{Item}
use Rattle.base_page.specs.Pages.{IsOfLevel}
use Rattle.base_page.specs.Rules.{is_held}
use Rattle.record_slots.specs.declared.row.Row.{Row}
use Rattle.record_slots.specs.Layout.{field_size, held_mark, item_size, no_bound, text_size}
use Rattle.record_slots.specs.Spelling.{text_words, field_words, bound_words, content_words, item_words, items_words}
use Rattle.record_slots.specs.Spells.{IsShortContent}
use Rattle.record_slots.specs.Texts.{bytes_of}
use Rattle.record_slots.specs.Parts.{IsItem, IsRowIn}
use Rattle.record_slots.proofs.TextLaws.{read_back}
use Rattle.record_slots.proofs.ItemLaws.{first_words, behind_words}
use Rattle.record_slots.proofs.RowLaws.{header_of, header_is, header_one}

text_one : (x y : List ℕ) → IsShort x → IsShort y → length x ≡ length y → text_words text_size x ≡ text_words text_size y → x ≡ y
text_one x y h g counts e =
    let a = read_back text_size x h.bytes_fit (let s = h.short in omega arith) in
    let b = read_back text_size y g.bytes_fit (let s = g.short in omega arith) in
    sym a.are ∙ (λ i. take (counts i) (bytes_of (e i))) ∙ b.are

field_one : (x y : List ℕ) → IsShort x → IsShort y → field_words x ≡ field_words y → x ≡ y
field_one x y h g e = text_one x y h g (ap (λ ws. get_or ws 0 0) e) (ap (drop 1) e)

bound_one : (x y : Option (List ℕ)) → IfSome x IsShort → IfSome y IsShort → bound_words x ≡ bound_words y → x ≡ y
bound_one None None h g e = refl
bound_one None (Some y) h g e = let f : no_bound ≡ length y = ap (λ ws. get_or ws 0 0) e in let s = g.short in absurd (omega arith)
bound_one (Some x) None h g e = let f : length x ≡ no_bound = ap (λ ws. get_or ws 0 0) e in let s = h.short in absurd (omega arith)
bound_one (Some x) (Some y) h g e = ap Some (field_one x y h g e)

held_one : (a b : Bool) (n m : ℕ) → n ≤ longest → m ≤ longest → n + (if a then held_mark else 0) ≡ m + (if b then held_mark else 0) → (n ≡ m) × (a ≡ b)
held_one true true n m nl ml e = (omega arith, refl)
held_one false false n m nl ml e = (omega arith, refl)
held_one true false n m nl ml e = absurd (omega arith)
held_one false true n m nl ml e = absurd (omega arith)

content_one : (level : ℕ) (c d : Content) → IsShortContent c → IsShortContent d → IsOfLevel level c → IsOfLevel level d → is_held c ≡ is_held d → content_words c ≡ content_words d → c ≡ d
content_one level (Value v) (Value w) h g i j k e = ap Value (field_one v w h g e)
content_one level (Value v) (Child p a) h g i j k e = absurd (omega arith)
content_one level (Child p a) (Value w) h g i j k e = absurd (omega arith)
content_one level (Child p a) (Child q b) h g i j k e = λ t. Child (ap (λ ws. get_or ws 0 0) e t) (k t)

item_one : (level : ℕ) (x y : Item) → IsItem level x → IsItem level y → item_words x ≡ item_words y → x ≡ y
item_one level x y h g e =
    let marks = held_one (is_held x.content) (is_held y.content) (length x.key) (length y.key) h.short.0.short g.short.0.short (ap (λ ws. get_or ws 0 0) e) in
    let keys = text_one x.key y.key h.short.0 g.short.0 marks.0 (ap (λ ws. take text_size (drop 1 ws)) e) in
    let contents = content_one level x.content y.content h.short.1 g.short.1 h.kind g.kind marks.1 (ap (drop field_size) e) in
    λ t. record { key = keys t; content = contents t }

pub items_one : (level : ℕ) (xs ys : List Item) → All (IsItem level) xs → All (IsItem level) ys → length xs ≡ length ys → items_words xs ≡ items_words ys → xs ≡ ys
items_one level [] [] h g l e = refl
items_one level [] (y ∷ ys) h g l e = absurd (omega arith)
items_one level (x ∷ xs) [] h g l e = absurd (omega arith)
items_one level (x ∷ xs) (y ∷ ys) h g l e =
    let first : item_words x ≡ item_words y = sym (first_words x (items_words xs)) ∙ ap (take item_size) e ∙ first_words y (items_words ys) in
    let behind : items_words xs ≡ items_words ys = sym (behind_words x (items_words xs) 0) ∙ ap (drop item_size) e ∙ behind_words y (items_words ys) 0 in
    let one = item_one level x y (All-head (IsItem level) x xs h) (All-head (IsItem level) y ys g) first in
    let rest = items_one level xs ys (All-tail (IsItem level) x xs h) (All-tail (IsItem level) y ys g) (omega arith) behind in
    λ i. one i ∷ rest i

pub row_one : (words : List ℕ) (one other : Row) → IsRowIn words one → IsRowIn words other → one ≡ other
row_one words one other h g =
    let head = header_one (get_or words 0 0) (header_of one) (header_of other) (header_is words one h) (header_is words other g) in
    let first = field_one one.first other.first h.is.first g.is.first (h.first ∙ sym g.first) in
    let second = bound_one one.second other.second h.is.second g.is.second (h.second ∙ sym g.second) in
    λ i. record { kind = head.0 i; level = head.1 i; count = head.2 i; next = (h.next ∙ sym g.next) i; page = (h.page ∙ sym g.page) i; first = first i; second = second i }
