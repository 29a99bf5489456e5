-- The texts of a row's items.
use Rattle.std.proofs.Common.{◌≡◌, ◌<◌, ◌≤◌, ◌+◌, ◌*◌, ◌%◌, ℕ, zero, suc, Bool, true, false, List, [], ◌∷◌, length, get_or, take, drop, refl, sym, ap, ◌∙◌, arith}
use Rattle.row_search.proofs.Words.{if◌then◌else◌, Ordering, key_cmp, longest, get_or-drop, drop-drop, Item, is_held, held_mark, item_size, items_at, text_size, item_words, items_words}
use Rattle.row_search.proofs.Words.{IsText, first_words, behind_words, StandIn}
use Rattle.record_slots.specs.Spells.{IsShortItem}

-- a window within the first n
front : (a n : ℕ) (xs : List ℕ) → a ≤ n → take a (take n xs) ≡ take a xs
front zero n xs h = refl
front (suc a) zero xs h = absurd (omega arith)
front (suc a) (suc n) [] h = refl
front (suc a) (suc n) (x ∷ xs) h = ap (λ ys. x ∷ ys) (front a n xs (omega arith))

pub window : (a b n : ℕ) (xs : List ℕ) → a + b ≤ n → take a (drop b (take n xs)) ≡ take a (drop b xs)
window a zero n xs h = front a n xs (omega arith)
window a (suc b) zero xs h = absurd (omega arith)
window a (suc b) (suc n) [] h = refl
window a (suc b) (suc n) (x ∷ xs) h = window a b n xs (omega arith)

first_of_item : (xs : List ℕ) → get_or (take item_size xs) 0 0 ≡ get_or xs 0 0
first_of_item [] = refl
first_of_item (x ∷ xs) = refl

item_at : (items : List Item) (place : ℕ) (d : Item) → place < length items → take item_size (drop (item_size * place) (items_words items)) ≡ item_words (get_or items place d)
item_at [] place d h = absurd (omega arith)
item_at (item ∷ items) zero d h = first_words item (items_words items)
item_at (item ∷ items) (suc place) d h = ap (take item_size) (behind_words item (items_words items) place) ∙ item_at items place d (omega arith)

pub unmarked : (held : Bool) (count : ℕ) → count ≤ longest → (count + (if held then held_mark else 0)) % held_mark ≡ count
unmarked true count few = omega arith
unmarked false count few = omega arith

module _ (words : List ℕ) (items : List Item) (stand : StandIn words items) (place : ℕ) (d : Item) (within : place < length items) where
  abbrev item : Item
  item = get_or items place d

  abbrev at : ℕ
  at = items_at + item_size * place

  -- its words from its place on
  pub item_stands : take item_size (drop at words) ≡ item_words item
  item_stands =
      ap (take item_size) (sym (drop-drop (item_size * place) items_at words))
      ∙ sym (window item_size (item_size * place) (item_size * length items) (drop items_at words) (omega arith))
      ∙ ap (λ ws. take item_size (drop (item_size * place) ws)) (sym stand.are)
      ∙ item_at items place d within

  short : IsShortItem item
  short = stand.short place d within

  pub item_count : get_or words at 0 % held_mark ≡ length item.key
  item_count =
      let zero_more : at ≡ at + 0 = omega arith in
      let first : get_or words at 0 ≡ length item.key + (if is_held item.content then held_mark else 0) =
      ap (λ k. get_or words k 0) zero_more ∙ sym (get_or-drop at words 0 0) ∙ sym (first_of_item (drop at words)) ∙ ap (λ ws. get_or ws 0 0) item_stands in
      ap (λ n. n % held_mark) first ∙ unmarked (is_held item.content) (length item.key) short.0.short

  pub item_text : IsText (get_or words at 0 % held_mark) (take text_size (drop (at + 1) words)) item.key
  item_text = record {
    short = short.0;
    counts = sym item_count;
    are = sym (ap (take text_size) (sym (drop_more at words)) ∙ sym (window text_size 1 item_size (drop at words) (omega arith)) ∙ ap (λ ws. take text_size (drop 1 ws)) item_stands);
  }
    where
      drop_more : (n : ℕ) (xs : List ℕ) → drop 1 (drop n xs) ≡ drop (n + 1) xs
      drop_more n xs = drop-drop 1 n xs

-- what is said of the text at a place is said of the item's key there
pub decided : (words : List ℕ) (items : List Item) → StandIn words items → (key : List ℕ) (o : Ordering) (place : ℕ) → place < length items
    → ((text : List ℕ) → IsText (get_or words (items_at + item_size * place) 0 % held_mark) (take text_size (drop (items_at + item_size * place + 1) words)) text → o ≡ key_cmp text key)
    → (d : Item) → key_cmp (get_or items place d).key key ≡ o
decided words items stand key o place within said d = sym (said (get_or items place d).key (item_text words items stand place d within))
