-- A compact row that is written part by part.
use Rattle.compact_rows.proofs.Words.{◌≡◌, ◌<◌, ◌+◌, ℕ, suc, List, [], ◌∷◌, ◌++◌, length, get_or, drop, sym, ap, ◌∙◌, append_assoc, length-append, Item}
use Rattle.compact_rows.proofs.Words.{bound_text, codes, heads, item_code, item_text, packed, texts}
use Rattle.std.specs.Prelude.{Option}
use Rattle.std.proofs.lemmas.List.{drop_more}
use Rattle.compact_rows.specs.Spelling.{head_word}

-- the first item of those that are left
module _ (items : List Item) (place : ℕ) (item : Item) (within : place < length items) (is : item ≡ get_or items place item) where
  pub left_items : drop place items ≡ item ∷ drop (place + 1) items
  left_items = drop_more items place item within ∙ ap (λ one. one ∷ drop (place + 1) items) (sym is)

  pub one_left : length (drop place items) ≡ suc (length (drop (place + 1) items))
  one_left = ap length left_items

  module _ (before now whole : List ℕ) where
    pub head_written : now ≡ before ++ head_word item ∷ [] → before ++ heads (drop place items) ≡ whole → now ++ heads (drop (place + 1) items) ≡ whole
    head_written more so =
        ap (λ ws. ws ++ heads (drop (place + 1) items)) more
        ∙ append_assoc before (head_word item ∷ []) (heads (drop (place + 1) items))
        ∙ ap (λ left. before ++ heads left) (sym left_items) ∙ so

    pub code_written : (at next : ℕ) → now ≡ before ++ item_code at item ∷ [] → next ≡ at + length (item_text item) → before ++ codes at (drop place items) ≡ whole
        → now ++ codes next (drop (place + 1) items) ≡ whole
    code_written at next more e so =
        (λ i. more i ++ codes (e i) (drop (place + 1) items))
        ∙ append_assoc before (item_code at item ∷ []) (codes (at + length (item_text item)) (drop (place + 1) items))
        ∙ ap (λ left. before ++ codes at left) (sym left_items) ∙ so

    pub text_written : now ≡ before ++ item_text item → before ++ texts (drop place items) ≡ whole → now ++ texts (drop (place + 1) items) ≡ whole
    text_written more so =
        ap (λ ws. ws ++ texts (drop (place + 1) items)) more
        ∙ append_assoc before (item_text item) (texts (drop (place + 1) items))
        ∙ ap (λ left. before ++ texts left) (sym left_items) ∙ so

  pub text_left : length (texts (drop place items)) ≡ length (item_text item) + length (texts (drop (place + 1) items))
  text_left = ap (λ left. length (texts left)) left_items ∙ length-append (item_text item) (texts (drop (place + 1) items))

-- all parts
module _ (one two at : ℕ) (first : List ℕ) (second : Option (List ℕ)) (items : List Item) where
  pub written : (a b c d e f g h : List ℕ) → a ≡ [] → b ≡ a ++ one ∷ [] → c ≡ b ++ two ∷ [] → d ≡ c ++ heads items → e ≡ d ++ codes at items
      → f ≡ e ++ packed first → g ≡ f ++ bound_text second → h ≡ g ++ texts items
      → h ≡ one ∷ two ∷ (heads items ++ (codes at items ++ (packed first ++ (bound_text second ++ texts items))))
  written a b c d e f g h at' bt ct dt et ft gt ht =
      let c_is : c ≡ one ∷ two ∷ [] = ct ∙ ap (λ xs. xs ++ two ∷ []) (bt ∙ ap (λ xs. xs ++ one ∷ []) at') in
      let d_is : d ≡ one ∷ two ∷ heads items = dt ∙ ap (λ xs. xs ++ heads items) c_is in
      let e_is : e ≡ one ∷ two ∷ (heads items ++ codes at items) = et ∙ ap (λ xs. xs ++ codes at items) d_is in
      let f_is : f ≡ one ∷ two ∷ ((heads items ++ codes at items) ++ packed first) = ft ∙ ap (λ xs. xs ++ packed first) e_is in
      let g_is : g ≡ one ∷ two ∷ (((heads items ++ codes at items) ++ packed first) ++ bound_text second) = gt ∙ ap (λ xs. xs ++ bound_text second) f_is in
      ht ∙ ap (λ xs. xs ++ texts items) g_is
      ∙ ap (λ xs. one ∷ two ∷ xs)
      (append_assoc ((heads items ++ codes at items) ++ packed first) (bound_text second) (texts items)
      ∙ append_assoc (heads items ++ codes at items) (packed first) (bound_text second ++ texts items)
      ∙ append_assoc (heads items) (codes at items) (packed first ++ (bound_text second ++ texts items)))
