-- A row that is written part by part.
use Rattle.std.proofs.Common.{◌≡◌, ◌<◌, ◌≤◌, ◌+◌, ◌*◌, ◌-◌, ℕ, suc, List, [], ◌∷◌, ◌++◌, length, get_or, set, drop, replicate, refl, sym, ap, ◌∙◌, arith, append_assoc, length-append}
use Rattle.std.specs.Prelude.{Option, Some, None}
use Rattle.std.proofs.lemmas.List.{drop_more, drop-replicate, drop-set-lt, length-set}
use Rattle.base_page.specs.declared.item.Item.{Item}
use Rattle.record_slots.specs.Layout.{IsWrittenTo, field_size, item_size, items_at, row_size, with_zeros}
use Rattle.record_slots.specs.Spelling.{field_words, bound_words, item_words, items_words, words_left}
use Rattle.record_slots.proofs.ItemLaws.{item_long, items_length}

-- one word more is written
pub pushed : (words : List ℕ) (count word : ℕ) → count < row_size → IsWrittenTo count words → IsWrittenTo (count + 1) (set words count word)
pushed words count word room is =
    let short : count < length words = omega (arith, is.long) in
    let behind : drop (count + 1) words ≡ replicate (row_size - (count + 1)) 0 =
    ap (drop 1) (sym (drop_more words count 0 short) ∙ is.zeros) ∙ drop-replicate 1 (row_size - count) 0 ∙ ap (λ n. replicate n 0) (omega arith) in
    record {
      within = omega arith;
      long = length-set words count word ∙ is.long;
      zeros = drop-set-lt (count + 1) words count word (omega arith) ∙ behind;
    }

bound_long : (bound : Option (List ℕ)) → length (bound_words bound) ≡ field_size
bound_long None = refl
bound_long (Some key) = refl

module _ (head next page : ℕ) (key : List ℕ) (bound : Option (List ℕ)) (items : List Item) where
  abbrev pub used : List ℕ
  used = head ∷ next ∷ page ∷ (field_words key ++ (bound_words bound ++ items_words items))

  pub used_length : length used ≡ items_at + item_size * length items
  used_length =
      let a = length-append (field_words key) (bound_words bound ++ items_words items) in
      let b = length-append (bound_words bound) (items_words items) in
      let c = bound_long bound in
      let d = items_length items in
      let e : length (field_words key) ≡ field_size = refl in
      omega arith

  pub written : (a b c d e f g : List ℕ) → a ≡ [] → b ≡ a ++ head ∷ [] → c ≡ b ++ next ∷ [] → d ≡ c ++ page ∷ [] → e ≡ d ++ field_words key
      → f ≡ e ++ bound_words bound → g ≡ f ++ items_words items → g ≡ used
  written a b c d e f g at bt ct dt et ft gt =
      let d_is : d ≡ head ∷ next ∷ page ∷ [] = dt ∙ ap (λ xs. xs ++ page ∷ []) (ct ∙ ap (λ xs. xs ++ next ∷ []) (bt ∙ ap (λ xs. xs ++ head ∷ []) at)) in
      let f_is : f ≡ head ∷ next ∷ page ∷ (field_words key ++ bound_words bound) = ft ∙ ap (λ xs. xs ++ bound_words bound) (et ∙ ap (λ xs. xs ++ field_words key) d_is) in
      gt ∙ ap (λ xs. xs ++ items_words items) f_is ∙ ap (λ xs. head ∷ next ∷ page ∷ xs) (append_assoc (field_words key) (bound_words bound) (items_words items))

  pub filled : (g : List ℕ) → g ≡ used
      → with_zeros g ≡ head ∷ next ∷ page ∷ (field_words key ++ (bound_words bound ++ (items_words items ++ replicate (words_left (length items)) 0)))
  filled g is =
      let zeros : List ℕ = replicate (words_left (length items)) 0 in
      let l = used_length in
      let left : row_size - length g ≡ words_left (length items) = ap (λ xs. row_size - length xs) is ∙ (omega arith) in
      let inner = append_assoc (bound_words bound) (items_words items) zeros in
      let outer = append_assoc (field_words key) (bound_words bound ++ items_words items) zeros in
      (λ i. is i ++ replicate (left i) 0) ∙ ap (λ xs. head ∷ next ∷ page ∷ xs) (outer ∙ ap (λ xs. field_words key ++ xs) inner)

-- an item is written, and those behind it are left
module _ (items : List Item) (place : ℕ) (item : Item) (within : place < length items) (is : item ≡ get_or items place item) where
  left_items : drop place items ≡ item ∷ drop (place + 1) items
  left_items = drop_more items place item within ∙ ap (λ one. one ∷ drop (place + 1) items) (sym is)

  module _ (before now : List ℕ) (more : now ≡ before ++ item_words item) where
    pub item_written : (whole : List ℕ) → before ++ items_words (drop place items) ≡ whole → now ++ items_words (drop (place + 1) items) ≡ whole
    item_written whole so =
        ap (λ words. words ++ items_words (drop (place + 1) items)) more
        ∙ append_assoc before (item_words item) (items_words (drop (place + 1) items))
        ∙ ap (λ left. before ++ items_words left) (sym left_items)
        ∙ so

    pub room_left : length before + item_size * length (drop place items) ≤ row_size → length now + item_size * length (drop (place + 1) items) ≤ row_size
    room_left room =
        let left : length (drop place items) ≡ suc (length (drop (place + 1) items)) = ap length left_items in
        let grown : length now ≡ length before + length (item_words item) = ap length more ∙ length-append before (item_words item) in
        let long = item_long item in
        omega arith
