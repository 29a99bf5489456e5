-- The words of a text: those that it takes, and those that today's rows have for it.
use Rattle.compact_rows.proofs.Words.{◌≡◌, ◌<◌, ◌≤◌, ◌+◌, ◌*◌, inl, inr, ℕ, zero, suc, Bool, true, false, List, ◌++◌, length, get_or, drop, refl, sym, ap, ◌∙◌, arith}
use Rattle.compact_rows.proofs.Words.{if◌then◌else◌, ltb, cases_lt, lt-ltb, le-ltb, drop-drop, get_or_append_left, big_endian, text_words, text_seen, packed, words_for}
use Rattle.std.proofs.lemmas.List.{drop_all, get_or-drop}

pub if_true : (b : Bool) (x y : ℕ) → b ≡ true → (if b then x else y) ≡ x
if_true true x y h = refl
if_true false x y h = cc

pub if_false : (b : Bool) (x y : ℕ) → b ≡ false → (if b then x else y) ≡ y
if_false true x y h = cc
if_false false x y h = refl

pub text_long : (n : ℕ) (bytes : List ℕ) → length (text_words n bytes) ≡ n
text_long zero bytes = refl
text_long (suc n) bytes = ap suc (text_long n (drop 8 bytes))

pub packed_long : (bytes : List ℕ) → length (packed bytes) ≡ words_for (length bytes)
packed_long bytes = text_long (words_for (length bytes)) bytes

-- word j of a text's words
pub text_word : (n j : ℕ) (bytes : List ℕ) → j < n → get_or (text_words n bytes) j 0 ≡ big_endian 8 (drop (8 * j) bytes)
text_word zero j bytes h = absurd (omega arith)
text_word (suc n) zero bytes h = refl
text_word (suc n) (suc j) bytes h =
    let more : 8 + 8 * j ≡ 8 * suc j = omega arith in
    text_word n j (drop 8 bytes) (omega arith) ∙ ap (big_endian 8) (drop-drop (8 * j) 8 bytes ∙ ap (λ k. drop k bytes) more)

-- behind the bytes there are zeros
no_bytes : (j : ℕ) (bytes : List ℕ) → length bytes ≤ 8 * j → big_endian 8 (drop (8 * j) bytes) ≡ 0
no_bytes j bytes h = ap (big_endian 8) (drop_all (8 * j) bytes h)

-- What is seen of a text that stands there are the words that today's rows have for it.
pub text_there : (n j at size : ℕ) (bytes words rest : List ℕ) → j < n → size ≡ words_for (length bytes) → words_for (length bytes) ≤ n → drop at words ≡ packed bytes ++ rest
    → text_seen words at size j ≡ get_or (text_words n bytes) j 0
text_there n j at size bytes words rest within is few there = elim (cases_lt j size) [
  | inl low ↦
      let long = packed_long bytes in
      if_true (ltb j size) (get_or words (at + j) 0) 0 (lt-ltb j size low)
      ∙ sym (get_or-drop at words j 0)
      ∙ ap (λ (ws : List ℕ). get_or ws j 0) there
      ∙ get_or_append_left (packed bytes) rest 0 j (omega arith)
      ∙ text_word (words_for (length bytes)) j bytes (omega arith)
      ∙ sym (text_word n j bytes within)
  | inr high ↦
      if_false (ltb j size) (get_or words (at + j) 0) 0 (le-ltb j size high)
      ∙ sym (no_bytes j bytes (omega arith))
      ∙ sym (text_word n j bytes within)
]
