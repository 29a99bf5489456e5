-- A row's words by its parts.
use Rattle.std.proofs.Common.{◌≡◌, ◌==◌, ◌≤◌, ◌+◌, ◌*◌, ◌-◌, ℕ, zero, suc, Bool, true, false, List, [], ◌∷◌, ◌++◌, length, get_or, take, drop, replicate, refl, sym, ap, subst, ◌∙◌, arith, length-drop}
use Rattle.std.specs.Prelude.{◌&&◌, bit_or, Option, Some, None}
use Rattle.std.proofs.lemmas.Bool.{eqb-true}
use Rattle.std.proofs.lemmas.List.{take-append-drop, drop-drop, length-replicate}
use Rattle.std.proofs.Math.Seq.{take-append_seam, drop-append_seam}
use Rattle.base_page.specs.declared.item.Item.{Item}
use Rattle.record_slots.specs.declared.row.Header.{Header}
use Rattle.record_slots.specs.declared.row.Row.{Row}
use Rattle.record_slots.specs.Layout.{field_size, first_at, item_size, items_at, row_size, second_at}
use Rattle.record_slots.specs.Spelling.{field_words, bound_words, items_words, row_words, words_left}
use Rattle.record_slots.specs.Parts.{are_zeros, header_word, IsHeaderIn, IsRowOfParts, IsRowIn}
use Rattle.record_slots.proofs.ItemLaws.{items_length}
use Rattle.record_slots.proofs.Flags.{left, right}
use Rattle.record_slots.proofs.WordLaws.{or_zeros}

pub zeros_are : (words : List ℕ) → are_zeros words ≡ true → words ≡ replicate (length words) 0
zeros_are [] h = refl
zeros_are (word ∷ words) h =
    let first : word ≡ 0 = eqb-true word 0 (left (word == 0) (are_zeros words) h) in
    let rest = zeros_are words (right (word == 0) (are_zeros words) h) in
    λ i. first i ∷ rest i

pub are_zeros_all : (n : ℕ) → are_zeros (replicate n 0) ≡ true
are_zeros_all zero = refl
are_zeros_all (suc n) = are_zeros_all n

and_assoc : (a b c : Bool) → (a && b) && c ≡ a && (b && c)
and_assoc true b c = refl
and_assoc false b c = refl

-- one word more
pub zeros_more : (all word : ℕ) (words : List ℕ) → (bit_or all word == 0) && are_zeros words ≡ (all == 0) && are_zeros (word ∷ words)
zeros_more all word words = ap (λ none. none && are_zeros words) (or_zeros all word) ∙ and_assoc (all == 0) (word == 0) (are_zeros words)

module _ (h n p : ℕ) (key : List ℕ) (rest : List ℕ) where
  abbrev behind : Option (List ℕ) → List ℕ
  behind second = h ∷ n ∷ p ∷ (field_words key ++ (bound_words second ++ rest))

  second_there : (second : Option (List ℕ)) → take field_size (drop second_at (behind second)) ≡ bound_words second
  second_there None = refl
  second_there (Some bound) = refl

  rest_there : (second : Option (List ℕ)) → drop items_at (behind second) ≡ rest
  rest_there None = refl
  rest_there (Some bound) = refl

abbrev pub words_of_row : Row → List Item → List ℕ
words_of_row row items = row_words row.kind row.level row.next row.page row.first row.second items

module _ (words : List ℕ) (row : Row) (items : List Item) (is : IsRowOfParts row) (counts : length items ≡ row.count) (are : words_of_row row items ≡ words) where
  abbrev tail : List ℕ
  tail = items_words items ++ replicate (words_left (length items)) 0

  abbrev head : ℕ
  head = header_word row.kind row.level (length items)

  behind_bound : drop items_at words ≡ tail
  behind_bound = ap (drop items_at) (sym are) ∙ rest_there head row.next row.page row.first tail row.second

  behind_items : drop (items_at + item_size * length items) words ≡ replicate (words_left (length items)) 0
  behind_items =
      let l = items_length items in
      sym (drop-drop (item_size * length items) items_at words) ∙ ap (drop (item_size * length items)) behind_bound ∙ ap (λ n. drop n tail) (sym l) ∙
      drop-append_seam (items_words items) (replicate (words_left (length items)) 0)

  pub row_there : IsRowIn words row
  row_there = record {
    is = is;
    header = ap (λ n. header_word row.kind row.level n) (sym counts) ∙ ap (λ ws. get_or ws 0 0) are;
    next = ap (λ ws. get_or ws 1 0) are;
    page = ap (λ ws. get_or ws 2 0) are;
    first = ap (λ ws. take field_size (drop first_at ws)) are;
    second = sym (second_there head row.next row.page row.first tail row.second) ∙ ap (λ ws. take field_size (drop second_at ws)) are;
    rest = subst (λ n. drop (items_at + item_size * n) words ≡ replicate (words_left n) 0) counts behind_items;
  }

  pub items_there : items_words items ≡ take (item_size * row.count) (drop items_at words)
  items_there =
      sym
      (ap (take (item_size * length items)) behind_bound ∙ ap (λ n. take n tail) (sym (items_length items)) ∙ take-append_seam (items_words items) (replicate (words_left (length items)) 0))
      ∙ ap (λ n. take (item_size * n) (drop items_at words)) counts

cut_twice : (m n : ℕ) (xs : List ℕ) → take m xs ++ (take m (drop m xs) ++ (take n (drop (m + m) xs) ++ drop (m + m + n) xs)) ≡ xs
cut_twice m n xs =
    let inner : take n (drop (m + m) xs) ++ drop (m + m + n) xs ≡ drop (m + m) xs = ap (λ ys. take n (drop (m + m) xs) ++ ys) (sym (drop-drop n (m + m) xs)) ∙ take-append-drop n (drop (m + m) xs) in
    let both : drop (m + m) xs ≡ drop m (drop m xs) = sym (drop-drop m m xs) in
    let middle : take m (drop m xs) ++ (take n (drop (m + m) xs) ++ drop (m + m + n) xs) ≡ drop m xs = ap (λ ys. take m (drop m xs) ++ ys) (inner ∙ both) ∙ take-append-drop m (drop m xs) in
    ap (λ ys. take m xs ++ ys) middle ∙ take-append-drop m xs

pub whole_row : (words : List ℕ) (row : Row) (items : List Item) → items_at ≤ length words → IsRowIn words row → length items ≡ row.count
    → items_words items ≡ take (item_size * row.count) (drop items_at words) → words_of_row row items ≡ words
whole_row [] row items long is counts are = absurd (omega arith)
whole_row (a ∷ []) row items long is counts are = absurd (omega arith)
whole_row (a ∷ b ∷ []) row items long is counts are = absurd (omega arith)
whole_row (a ∷ b ∷ c ∷ words) row items long is counts are =
    let n : ℕ = item_size * row.count in
    let rest : drop (field_size + field_size + n) words ≡ replicate (words_left (length items)) 0 =
    let three : items_at + n ≡ suc (suc (suc (field_size + field_size + n))) = omega arith in ap (λ k. drop k (a ∷ b ∷ c ∷ words)) (sym three) ∙ is.rest ∙ ap
    (λ k. replicate (words_left k) 0) (sym counts) in
    let head : header_word row.kind row.level (length items) ≡ a = ap (λ k. header_word row.kind row.level k) counts ∙ is.header in
    (λ i. head i ∷ is.next i ∷ is.page i ∷ (is.first i ++ (is.second i ++ (are i ++ sym rest i)))) ∙ ap (λ ws. a ∷ b ∷ c ∷ ws) (cut_twice field_size n words)

-- the numbers of a first word are one
pub header_one : (word : ℕ) (one other : Header) → IsHeaderIn word one → IsHeaderIn word other → (one.kind ≡ other.kind) × (one.level ≡ other.level) × (one.count ≡ other.count)
header_one word one other h g =
    let a = h.kind in
    let b = g.kind in
    let c = h.level in
    let d = g.level in
    let e = h.are in
    let f = g.are in
    (omega arith, omega arith, omega arith)

abbrev pub header_of : Row → Header
header_of row = record { kind = row.kind; level = row.level; count = row.count }

pub header_is : (words : List ℕ) (row : Row) → IsRowIn words row → IsHeaderIn (get_or words 0 0) (header_of row)
header_is words row is = record { kind = is.is.kind; level = is.is.level; few = is.is.few; are = is.header }

-- behind the items that the header counts there are zeros
pub zeros_behind : (words : List ℕ) (header : Header) → IsHeaderIn (get_or words 0 0) header → (row : Row) → IsRowIn words row → are_zeros (drop (items_at + item_size * header.count) words) ≡ true
zeros_behind words header h row is =
    let same = header_one (get_or words 0 0) header (header_of row) h (header_is words row is) in
    ap (λ n. are_zeros (drop (items_at + item_size * n) words)) same.2 ∙ ap are_zeros is.rest ∙ are_zeros_all (words_left row.count)

pub zeros_there : (words : List ℕ) (count : ℕ) → length words ≡ row_size → are_zeros (drop (items_at + item_size * count) words) ≡ true
    → drop (items_at + item_size * count) words ≡ replicate (words_left count) 0
zeros_there words count all h =
    let l = length-drop (items_at + item_size * count) words in
    let n : length (drop (items_at + item_size * count) words) ≡ words_left count = omega arith in
    zeros_are (drop (items_at + item_size * count) words) h ∙ ap (λ k. replicate k 0) n

take_whole : (n : ℕ) (xs : List ℕ) → length xs ≤ n → take n xs ≡ xs
take_whole zero [] h = refl
take_whole zero (x ∷ xs) h = absurd (omega arith)
take_whole (suc n) [] h = refl
take_whole (suc n) (x ∷ xs) h = ap (λ ys. x ∷ ys) (take_whole n xs (omega arith))

-- a part up to the end is all that is behind its beginning
pub up_to_end : (words : List ℕ) (from : ℕ) → length words ≡ row_size → take (row_size - from) (drop from words) ≡ drop from words
up_to_end words from all = let l = length-drop from words in take_whole (row_size - from) (drop from words) (omega arith)

pub row_length : (words : List ℕ) (row : Row) → IsRowIn words row → length words ≡ row_size
row_length words row is =
    let few = is.is.few in
    let n : ℕ = items_at + item_size * row.count in
    let l : length (drop n words) ≡ words_left row.count = ap length is.rest ∙ length-replicate (words_left row.count) 0 in
    let d = length-drop n words in
    let m : length words - n ≡ words_left row.count = sym d ∙ l in
    omega (arith, m, few)
