-- The bytes of texts in words.
use Rattle.std.proofs.Common.{◌≡◌, ◌==◌, ◌<◌, ◌≤◌, ◌+◌, ◌*◌, ◌-◌, ◌/◌, ◌%◌, ◌^◌, inl, inr, ℕ, zero, suc, true, false, List, [], ◌∷◌, ◌++◌, length, get_or, take, drop, refl, sym, ap, subst, ◌∙◌, arith}
use Rattle.std.specs.Prelude.{◌&&◌}
use Rattle.std.specs.Int.{w64, to_be_bytes, from_be_bytes}
use Rattle.std.specs.List.{AllByRecursion}
use Rattle.std.proofs.lemmas.Bool.{cases_lt, eqb-true}
use Rattle.std.proofs.lemmas.List.{append-nil, drop-drop, length-drop, take-append-le}
use Rattle.std.proofs.lemmas.Nat.{be_bytes_8, from_be_bytes-to_be_bytes_8, mod-mul-add, div-add-mod', pow-add}
use Rattle.std.proofs.Math.Dec.{eqb-suc-zero}
use Rattle.std.proofs.Math.Nat.{mod-lt, mod-one, mul-mod_left, mul_assoc, add-mul, mul-le-mul_left}
use Rattle.std.proofs.Math.Seq.{take-append-add}
use Rattle.bw_model.specs.Bytes.{longest}
use Rattle.record_slots.specs.Layout.{text_size}
use Rattle.record_slots.specs.Spelling.{big_endian, text_words}
use Rattle.record_slots.specs.Texts.{IsText, bytes_of, ends_there}
use Rattle.record_slots.proofs.WordLaws.{AreBytes, bytes_at, multiple, no_packed, packed_below, packed_split, pow_bytes, some_bytes}
use Rattle.record_slots.proofs.Flags.{left, right}

drop_bytes : (n : ℕ) (xs : List ℕ) → AreBytes xs → AreBytes (drop n xs)
drop_bytes zero xs h = h
drop_bytes (suc n) [] h = tt
drop_bytes (suc n) (x ∷ xs) h = drop_bytes n xs h.1

take_bytes : (n : ℕ) (xs : List ℕ) → AreBytes xs → AreBytes (take n xs)
take_bytes zero xs h = tt
take_bytes (suc n) [] h = tt
take_bytes (suc n) (x ∷ xs) h = (h.0, take_bytes n xs h.1)

append_bytes : (xs ys : List ℕ) → AreBytes xs → AreBytes ys → AreBytes (xs ++ ys)
append_bytes [] ys h g = g
append_bytes (x ∷ xs) ys h g = (h.0, append_bytes xs ys h.1 g)

packed_full : (n : ℕ) (xs ys : List ℕ) → length xs ≡ n → big_endian n (xs ++ ys) ≡ big_endian n xs
packed_full zero xs ys h = refl
packed_full (suc n) [] ys h = absurd (omega arith)
packed_full (suc n) (x ∷ xs) ys h = ap (λ p. x * 256 ^ n + p) (packed_full n xs ys (omega arith))

drop_full : (n : ℕ) (xs ys : List ℕ) → length xs ≡ n → drop n (xs ++ ys) ≡ ys
drop_full zero [] ys h = refl
drop_full zero (x ∷ xs) ys h = absurd (omega arith)
drop_full (suc n) [] ys h = absurd (omega arith)
drop_full (suc n) (x ∷ xs) ys h = drop_full n xs ys (omega arith)

none : (xs : List ℕ) → length xs ≤ 0 → xs ≡ []
none [] h = refl
none (x ∷ xs) h = absurd (omega arith)

drop_all : (n : ℕ) (xs : List ℕ) → length xs ≤ n → drop n xs ≡ []
drop_all zero xs h = none xs h
drop_all (suc n) [] h = refl
drop_all (suc n) (x ∷ xs) h = drop_all n xs (omega arith)

-- eight bytes are read as the number that they are packed to
worth : (xs : List ℕ) → length xs ≡ 8 → from_be_bytes w64 xs ≡ big_endian 8 xs
worth (a ∷ b ∷ c ∷ d ∷ e ∷ f ∷ g ∷ h ∷ []) eight = omega arith
worth _ eight = absurd (omega arith)

module _ (word : ℕ) (fits : word < 2 ^ 64) where
  abbrev pub bytes : List ℕ
  bytes = to_be_bytes w64 word

  pub eight : length bytes ≡ 8
  eight = refl

  pub word_bytes : AreBytes bytes
  word_bytes = (low word 7, (low word 6, (low word 5, (low word 4, (low word 3, (low word 2, (low word 1, (mod-lt word (omega arith), tt))))))))
    where
      low : (n i : ℕ) → n / 256 ^ i % 256 < 256
      low n i = mod-lt (n / 256 ^ i) (omega arith)

  pub word_packed : big_endian 8 bytes ≡ word
  word_packed = sym (worth bytes eight) ∙ from_be_bytes-to_be_bytes_8 word fits

  -- no other bytes are packed to the word
  pub unpacked : (xs : List ℕ) → AreBytes xs → length xs ≡ 8 → big_endian 8 xs ≡ word → bytes ≡ xs
  unpacked xs h n e = be_bytes_8 xs word n (bytes_at xs h) (sym e ∙ sym (worth xs n))

  -- the first bytes are packed to the word where there is nothing behind them
  pub first_packed : (count : ℕ) → count ≤ 8 → word % 256 ^ (8 - count) ≡ 0 → big_endian 8 (take count bytes) ≡ word
  first_packed count few nothing =
      let m : ℕ = 8 - count in
      let eight : 8 ≡ count + m = omega arith in
      let s : big_endian 8 bytes ≡ big_endian 8 (take count bytes) + big_endian m (drop count bytes) = packed_split count m 8 bytes eight in
      let q = multiple count m 8 (take count bytes) eight (takes count bytes) in
      let f : big_endian 8 (take count bytes) ≡ q.0 * 256 ^ m = q.1 in
      let small = packed_below m (drop count bytes) (drop_bytes count bytes word_bytes) in
      let w = word_packed in
      let whole : word ≡ q.0 * 256 ^ m + big_endian m (drop count bytes) = omega arith in
      let none : big_endian m (drop count bytes) ≡ 0 = sym (mod-mul-add q.0 (256 ^ m) (big_endian m (drop count bytes)) small) ∙ ap (λ n. n % 256 ^ m) (sym whole) ∙ nothing in
      omega arith
    where
      takes : (n : ℕ) (xs : List ℕ) → length (take n xs) ≤ n
      takes zero xs = omega arith
      takes (suc n) [] = omega arith
      takes (suc n) (x ∷ xs) = let r = takes n xs in omega arith

-- bytes that words spell, and how many
pub record SpellsBytes (n count : ℕ) (words text : List ℕ) : Type 0 where
  pub are : text_words n text ≡ words
  pub counts : length text ≡ count
  pub bytes : AreBytes text

abbrev pub AreWords : List ℕ → Type 0
AreWords = AllByRecursion (λ word. word < 2 ^ 64)

-- the bytes are spelled by the words that they were read from
pub spelled : (words : List ℕ) (count : ℕ) → AreWords words → count ≤ 8 * length words → ends_there count words ≡ true → SpellsBytes (length words) count words (take count (bytes_of words))
spelled [] count h few ends = let zero : 0 ≡ count = omega arith in subst (λ k. SpellsBytes 0 k [] (take k [])) zero (record { are = refl; counts = refl; bytes = tt })
spelled (word ∷ words) count h few ends =
    let front : List ℕ = to_be_bytes w64 word in
    let rest = spelled words (count - 8) h.1 (omega arith) (right (word % 256 ^ (8 - count) == 0) (ends_there (count - 8) words) ends) in
    let back : List ℕ = take (count - 8) (bytes_of words) in
    let nothing : word % 256 ^ (8 - count) ≡ 0 = eqb-true (word % 256 ^ (8 - count)) 0 (left (word % 256 ^ (8 - count) == 0) (ends_there (count - 8) words) ends) in
    elim (cases_lt count 8) [
      | inl few ↦
          let text : take count (front ++ bytes_of words) ≡ take count front = take-append-le count front (bytes_of words) (let e = eight word h.0 in omega arith) in
          let short : length (take count front) ≡ count = takes count front (let e = eight word h.0 in omega arith) in
          let first = first_packed word h.0 count (omega arith) nothing in
          let none : back ≡ [] = let z : count - 8 ≡ 0 = omega arith in ap (λ k. take k (bytes_of words)) z in
          let behind : text_words (length words) (drop 8 (take count front)) ≡ words = ap (text_words (length words)) (drop_all 8 (take count front) (omega (arith, short)) ∙ sym none) ∙ rest.are in
          subst (SpellsBytes (length (word ∷ words)) count (word ∷ words)) (sym text) (record { are = λ i. first i ∷ behind i; counts = short; bytes = take_bytes count front (word_bytes word h.0) })
      | inr full ↦
          let more : count ≡ length front + (count - 8) = let e = eight word h.0 in omega arith in
          let text : take count (front ++ bytes_of words) ≡ front ++ back = ap (λ k. take k (front ++ bytes_of words)) more ∙ take-append-add front (bytes_of words) (count - 8) in
          let first : big_endian 8 (front ++ back) ≡ word = packed_full 8 front back (eight word h.0) ∙ word_packed word h.0 in
          let behind : text_words (length words) (drop 8 (front ++ back)) ≡ words = ap (text_words (length words)) (drop_full 8 front back (eight word h.0)) ∙ rest.are in
          let counts : length (front ++ back) ≡ count = let c = rest.counts in omega arith in
          subst (SpellsBytes (length (word ∷ words)) count (word ∷ words)) (sym text)
          (record { are = λ i. first i ∷ behind i; counts = counts; bytes = append_bytes front back (word_bytes word h.0) rest.bytes })
    ]
  where
    takes : (n : ℕ) (xs : List ℕ) → n ≤ length xs → length (take n xs) ≡ n
    takes zero xs h = refl
    takes (suc n) [] h = absurd (omega arith)
    takes (suc n) (x ∷ xs) h = ap suc (takes n xs (omega arith))

-- n bytes, with zeros behind the last one
abbrev padded : ℕ → List ℕ → List ℕ
padded zero xs = []
padded (suc n) [] = 0 ∷ padded n []
padded (suc n) (x ∷ xs) = x ∷ padded n xs

padded_length : (n : ℕ) (xs : List ℕ) → length (padded n xs) ≡ n
padded_length zero xs = refl
padded_length (suc n) [] = ap suc (padded_length n [])
padded_length (suc n) (x ∷ xs) = ap suc (padded_length n xs)

padded_bytes : (n : ℕ) (xs : List ℕ) → AreBytes xs → AreBytes (padded n xs)
padded_bytes zero xs h = tt
padded_bytes (suc n) [] h = (omega arith, padded_bytes n [] tt)
padded_bytes (suc n) (x ∷ xs) h = (h.0, padded_bytes n xs h.1)

padded_packed : (n : ℕ) (xs : List ℕ) → big_endian n (padded n xs) ≡ big_endian n xs
padded_packed zero xs = refl
padded_packed (suc n) [] = let r = padded_packed n [] in let e = no_packed n in omega arith
padded_packed (suc n) (x ∷ xs) = ap (λ p. x * 256 ^ n + p) (padded_packed n xs)

padded_front : (n : ℕ) (xs ys : List ℕ) → take (length xs - n) ys ≡ drop n xs → take (length xs) (padded n xs ++ ys) ≡ xs
padded_front zero xs ys h = let z : length xs ≡ length xs - 0 = omega arith in ap (λ n. take n ys) z ∙ h
padded_front (suc n) [] ys h = refl
padded_front (suc n) (x ∷ xs) ys h = let z : length xs - n ≡ suc (length xs) - suc n = omega arith in ap (λ zs. x ∷ zs) (padded_front n xs ys (ap (λ k. take k ys) z ∙ h))

packed_fits : (xs : List ℕ) → AreBytes xs → big_endian 8 xs < 2 ^ 64
packed_fits xs h = let p = packed_below 8 xs h in let e = pow_bytes 8 in omega arith

nothing_behind : (xs : List ℕ) → big_endian 8 xs % 256 ^ (8 - length xs) ≡ 0
nothing_behind xs = elim (cases_lt (length xs) 8) [
  | inl few ↦
      let m : ℕ = 8 - length xs in
      let eight : 8 ≡ length xs + m = omega arith in
      let q = multiple (length xs) m 8 xs eight (omega arith) in
      ap (λ n. n % 256 ^ m) q.1 ∙ mul-mod_left q.0 (256 ^ m)
  | inr full ↦ let z : 8 - length xs ≡ 0 = omega arith in ap (λ m. big_endian 8 xs % 256 ^ m) z ∙ mod-one (big_endian 8 xs)
]

pub record ReadsBytes (count : ℕ) (words text : List ℕ) : Type 0 where
  pub ends : ends_there count words ≡ true
  pub are : take count (bytes_of words) ≡ text

-- a text that words spell is read from them
pub read_back : (n : ℕ) (text : List ℕ) → AreBytes text → length text ≤ 8 * n → ReadsBytes (length text) (text_words n text) text
read_back zero [] h few = record { ends = refl; are = refl }
read_back zero (x ∷ text) h few = absurd (omega arith)
read_back (suc n) text h few =
    let back : List ℕ = drop 8 text in
    let lb : length back ≡ length text - 8 = length-drop 8 text in
    let rest = read_back n back (drop_bytes 8 text h) (omega arith) in
    let front = unpacked (big_endian 8 text) (packed_fits text h) (padded 8 text) (padded_bytes 8 text h) (padded_length 8 text) (padded_packed 8 text) in
    let nothing : big_endian 8 text % 256 ^ (8 - length text) ≡ 0 = nothing_behind text in
    let behind : take (length text - 8) (bytes_of (text_words n back)) ≡ back = ap (λ k. take k (bytes_of (text_words n back))) (sym lb) ∙ rest.are in
    record {
      ends = (λ i. (nothing i == 0) && (ap (λ k. ends_there k (text_words n back)) (sym lb) ∙ rest.ends) i);
      are = ap (λ xs. take (length text) (xs ++ bytes_of (text_words n back))) front ∙ padded_front 8 text (bytes_of (text_words n back)) behind;
    }

-- one word more has the next eight bytes
pub text_grows : (n : ℕ) (text : List ℕ) → text_words (suc n) text ≡ text_words n text ++ big_endian 8 (drop (8 * n) text) ∷ []
text_grows zero text = refl
text_grows (suc n) text =
    ap (λ ws. big_endian 8 text ∷ ws)
    (text_grows n (drop 8 text) ∙ ap (λ xs. text_words n (drop 8 text) ++ big_endian 8 xs ∷ []) (drop-drop (8 * n) 8 text ∙ ap (λ k. drop k text) (let e : 8 + 8 * n ≡ 8 * suc n = omega arith in e)))

words_fit : (words : List ℕ) → ((i : ℕ) → get_or words i 0 < 2 ^ 64) → AreWords words
words_fit [] h = tt
words_fit (word ∷ words) h = (h 0, words_fit words (λ i. h (suc i)))

-- what is read of four words with nothing behind it is the text that they spell
pub is_text : (count : ℕ) (words : List ℕ) → ((i : ℕ) → get_or words i 0 < 2 ^ 64) → length words ≡ text_size → count ≤ longest → ends_there count words ≡ true
    → IsText count words (take count (bytes_of words))
is_text count words fits long few ends =
    let s = spelled words count (words_fit words fits) (omega arith) ends in
    record { short = record { short = let c = s.counts in omega arith; bytes_fit = s.bytes }; counts = s.counts; are = ap (λ n. text_words n (take count (bytes_of words))) (sym long) ∙ s.are }

pub no_text : (count : ℕ) (words : List ℕ) → ends_there count words ≡ false → (text : List ℕ) → IsText count words text → ⊥
no_text count words stops text is =
    let r = read_back text_size text is.short.bytes_fit (let s = is.short.short in omega arith) in
    let ends : ends_there count words ≡ true = (λ i. ends_there (sym is.counts i) (sym is.are i)) ∙ r.ends in
    cc

-- each word has eight bytes
pub many_bytes : (words : List ℕ) → length (bytes_of words) ≡ 8 * length words
many_bytes [] = refl
many_bytes (word ∷ words) = let r = many_bytes words in omega arith

zero_times : (a z : ℕ) → 0 < z → (a * z == 0) ≡ (a == 0)
zero_times zero z h = ap (λ n. n == 0) (let e : 0 * z ≡ 0 = omega arith in e)
zero_times (suc a) z h = let e : suc a * z ≡ suc (z - 1 + a * z) = omega arith in ap (λ n. n == 0) e ∙ eqb-suc-zero (z - 1 + a * z) ∙ sym (eqb-suc-zero a)

-- a shift over the first bytes leaves what is behind them
pub shifted : (count word : ℕ) → count < 8 → (word * 2 ^ (8 * count) % 2 ^ 64 == 0) ≡ (word % 256 ^ (8 - count) == 0)
shifted count word few =
    let y : ℕ = 256 ^ (8 - count) in
    let z : ℕ = 256 ^ count in
    let shift : 2 ^ (8 * count) ≡ z = pow_bytes count in
    let all : 2 ^ 64 ≡ y * z = let e : 8 ≡ 8 - count + count = omega arith in pow_bytes 8 ∙ ap (λ n. 256 ^ n) e ∙ pow-add 256 (8 - count) count in
    let parts : word ≡ word / y * y + word % y = sym (div-add-mod' word y) in
    let times : word * z ≡ word / y * (y * z) + word % y * z = ap (λ w. w * z) parts ∙ add-mul (word / y * y) (word % y) z ∙ ap (λ n. n + word % y * z) (mul_assoc (word / y) y z) in
    let low : word % y * z < y * z = below (word % y) y z (mod-lt word (some_bytes (8 - count))) (some_bytes count) in
    let left : word * 2 ^ (8 * count) % 2 ^ 64 ≡ word % y * z = (λ i. word * shift i % all i) ∙ ap (λ n. n % (y * z)) times ∙ mod-mul-add (word / y) (y * z) (word % y * z) low in
    ap (λ n. n == 0) left ∙ zero_times (word % y) z (some_bytes count)
  where
    below : (a b z : ℕ) → a < b → 0 < z → a * z < b * z
    below a b z h g =
        let m : z * suc a ≤ z * b = mul-le-mul_left z (omega arith) in
        let e : z * suc a ≡ z + a * z = omega arith in
        let f : z * b ≡ b * z = omega arith in
        omega arith

-- the two first parts of a list of three
pub two_parts : (n : ℕ) (xs ys zs : List ℕ) → n ≡ length xs + length ys → take n (xs ++ (ys ++ zs)) ≡ xs ++ ys
two_parts n xs ys zs e =
    let none : length ys ≡ length ys + 0 = omega arith in
    ap (λ k. take k (xs ++ (ys ++ zs))) e ∙ take-append-add xs (ys ++ zs) (length ys)
    ∙ ap (λ k. xs ++ take k (ys ++ zs)) none ∙ ap (λ rest. xs ++ rest) (take-append-add ys zs 0 ∙ append-nil ys)
