-- Texts that are compared one word after the other, up to the first one that differs.
use Rattle.std.proofs.Common.{◌≡◌, ◌<◌, ◌≤◌, ◌+◌, ◌*◌, ℕ, zero, suc, List, [], ◌∷◌, true, false, true≢false, length, get_or, drop, take, refl, sym, ap, subst, ◌∙◌, arith}
use Rattle.std.proofs.Common.{length-drop}
use Rattle.std.proofs.lemmas.Map.Lookups.{exact_unsigned}
use Rattle.row_search.proofs.Words.{get_or-drop, get_or-take, Ordering, Less, Equal, Greater, is_eq, nat_cmp, ordering_then, nat_cmp_is, slice_cmp, key_cmp, text_size, text_words, IsText}
use Rattle.record_slots.proofs.WordLaws.{no_packed}
use Rattle.row_search.proofs.KeyOrder.{lead_order, words_order}
use Rattle.row_search.proofs.WordsCmp.{by_words}

settled : (o rest : Ordering) → is_eq o ≡ false → ordering_then o rest ≡ o
settled Less rest e = refl
settled Greater rest e = refl
settled Equal rest e = absurd (true≢false e)

same_words : (x y : ℕ) → x ≡ y → nat_cmp x y ≡ Equal
same_words x y e = sym (nat_cmp_is x y Equal e)

-- words that compare as equal are the same
pub same_word : (x y : ℕ) (o : Ordering) → o ≡ nat_cmp x y → is_eq o ≡ true → x ≡ y
same_word x y Less e h = cc
same_word x y Equal e h = exact_unsigned x y (sym e)
same_word x y Greater e h = cc

first_other : (place : ℕ) (xs ys : List ℕ) (o : Ordering) → place < length xs → place < length ys → ((j : ℕ) → j < place → get_or xs j 0 ≡ get_or ys j 0)
    → o ≡ nat_cmp (get_or xs place 0) (get_or ys place 0) → is_eq o ≡ false → slice_cmp nat_cmp xs ys ≡ o
first_other place [] ys o low high same is ne = absurd (omega arith)
first_other place (x ∷ xs) [] o low high same is ne = absurd (omega arith)
first_other zero (x ∷ xs) (y ∷ ys) o low high same is ne = ap (λ p. ordering_then p (slice_cmp nat_cmp xs ys)) (sym is) ∙ settled o (slice_cmp nat_cmp xs ys) ne
first_other (suc place) (x ∷ xs) (y ∷ ys) o low high same is ne =
    ap (λ p. ordering_then p (slice_cmp nat_cmp xs ys)) (same_words x y (same 0 (omega arith))) ∙ first_other place xs ys o (omega arith) (omega arith) (λ j below. same (suc j) (omega arith)) is ne

no_other : (xs ys : List ℕ) → length xs ≡ length ys → ((j : ℕ) → j < length xs → get_or xs j 0 ≡ get_or ys j 0) → slice_cmp nat_cmp xs ys ≡ Equal
no_other [] [] e same = refl
no_other [] (y ∷ ys) e same = absurd (omega arith)
no_other (x ∷ xs) [] e same = absurd (omega arith)
no_other (x ∷ xs) (y ∷ ys) e same = ap (λ p. ordering_then p (slice_cmp nat_cmp xs ys)) (same_words x y (same 0 (omega arith))) ∙ no_other xs ys (omega arith) (λ j below. same (suc j) (omega arith))

-- what has the same words at the same places
pub same_lists : (xs ys : List ℕ) → length xs ≡ length ys → ((j : ℕ) → j < length xs → get_or xs j 0 ≡ get_or ys j 0) → xs ≡ ys
same_lists [] [] e same = refl
same_lists [] (y ∷ ys) e same = absurd (omega arith)
same_lists (x ∷ xs) [] e same = absurd (omega arith)
same_lists (x ∷ xs) (y ∷ ys) e same = λ i. same 0 (omega arith) i ∷ same_lists xs ys (omega arith) (λ j below. same (suc j) (omega arith)) i

-- behind a text's end its words are 0
pub behind_text : (n j : ℕ) (text : List ℕ) → length text ≤ 8 * j → get_or (text_words n text) j 0 ≡ 0
behind_text zero j text few = refl
behind_text (suc n) zero [] few = no_packed 8
behind_text (suc n) zero (byte ∷ text) few = absurd (omega arith)
behind_text (suc n) (suc j) text few = let rest = length-drop 8 text in behind_text n j (drop 8 text) (omega arith)

-- a word of a text is the same among so many of its words
one_word : (n k j : ℕ) (text : List ℕ) → j < n → j < k → get_or (text_words n text) j 0 ≡ get_or (text_words k text) j 0
one_word zero k j text low high = absurd (omega arith)
one_word (suc n) zero j text low high = absurd (omega arith)
one_word (suc n) (suc k) zero text low high = refl
one_word (suc n) (suc k) (suc j) text low high = one_word n k j (drop 8 text) (omega arith) (omega arith)

long : (n : ℕ) (text : List ℕ) → length (text_words n text) ≡ n
long zero text = refl
long (suc n) text = ap suc (long n (drop 8 text))

-- The text of the words from a place on, and a key with its words.
module _ (words : List ℕ) (at n m : ℕ) (others text key : List ℕ) (is : IsText n (take text_size (drop at words)) text) (other : IsText m others key) where
  abbrev ones : List ℕ
  ones = take text_size (drop at words)

  ones_long : length ones ≡ text_size
  ones_long = ap length (sym is.are) ∙ long text_size text

  others_long : length others ≡ text_size
  others_long = ap length (sym other.are) ∙ long text_size key

  word : (j : ℕ) → j < text_size → get_or ones j 0 ≡ get_or words (at + j) 0
  word j below = get_or-take text_size (drop at words) j 0 below ∙ get_or-drop at words j 0

  pub by_first_other : (place : ℕ) (o : Ordering) → place < text_size → ((j : ℕ) → j < place → get_or words (at + j) 0 ≡ get_or others j 0)
      → o ≡ nat_cmp (get_or words (at + place) 0) (get_or others place 0) → is_eq o ≡ false → o ≡ key_cmp text key
  by_first_other place o below same is' ne =
      let ones_l = ones_long in let others_l = others_long in
      sym (settled o (nat_cmp n m) ne)
      ∙ ap (λ p. ordering_then p (nat_cmp n m)) (sym (first_other place ones others o (omega arith) (omega arith) (λ j low. word j (omega arith) ∙ same j low) (is'
      ∙ ap (λ (w : ℕ). nat_cmp w (get_or others place 0)) (sym (word place below))) ne))
      ∙ by_words n m ones others text key is other

  -- where the first words are the same, and the key has no more of them, the lengths decide
  pub by_lengths : (used : ℕ) → used ≤ text_size → length key ≤ 8 * used → ((j : ℕ) → j < used → get_or words (at + j) 0 ≡ get_or others j 0)
      → nat_cmp n (length key) ≡ key_cmp text key
  by_lengths used few all same =
      let long_text = long used text in
      let long_key = long used key in
      let alike : slice_cmp nat_cmp (text_words used text) (text_words used key) ≡ Equal =
      no_other (text_words used text) (text_words used key) (omega arith) (λ j low.
      let below : j < used = omega arith in
      let small : j < text_size = omega arith in
      one_word used text_size j text below small ∙ ap (λ (ws : List ℕ). get_or ws j 0) is.are ∙ word j small ∙ same j below
      ∙ sym (one_word used text_size j key below small ∙ ap (λ (ws : List ℕ). get_or ws j 0) other.are)) in
      ap (λ (k : ℕ). nat_cmp k (length key)) (sym is.counts)
      ∙ sym (lead_order (8 * used) text key all (sym (words_order used text key is.short.bytes_fit other.short.bytes_fit) ∙ alike))

-- a text by the count and the words that were looked at
module _ (text : List ℕ) {count other : ℕ} {words others : List ℕ} (same : count ≡ other) (are : words ≡ others) where
  pub at_words : IsText other others text → IsText count words text
  at_words h = subst (λ (z : ℕ × List ℕ). IsText z.0 z.1 text) (λ i. (sym same i, sym are i)) h

  pub from_words : IsText count words text → IsText other others text
  from_words h = subst (λ (z : ℕ × List ℕ). IsText z.0 z.1 text) (λ i. (same i, are i)) h
