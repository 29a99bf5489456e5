-- Keys are in the order of their words, and then of their lengths.
use Rattle.std.proofs.Common.{◌≡◌, ◌<◌, ◌≤◌, ◌+◌, ◌*◌, ◌-◌, ◌^◌, ℕ, zero, suc, List, [], ◌∷◌, length, get_or, drop, refl, sym, ap, ◌∙◌, arith}
use Rattle.row_search.proofs.Words.{Ordering, Less, Equal, Greater, slice_cmp, key_cmp}
use Rattle.std.specs.Ordering.{nat_cmp, ordering_then, MatchOrdering}
use Rattle.std.specs.Cmp.{nat_cmp_is, ranked}
use Rattle.record_slots.specs.Spelling.{big_endian, text_words}
use Rattle.record_slots.proofs.WordLaws.{AreBytes, no_packed, packed_below}

-- Keys are compared word by word, and where all words are the same, by their lengths.
abbrev pub words_cmp : List ℕ → ℕ → List ℕ → ℕ → Ordering
words_cmp one count other length = ordering_then (slice_cmp nat_cmp one other) (nat_cmp count length)

-- n bytes, with zeros behind the last one
abbrev padded : ℕ → List ℕ → List ℕ
padded zero xs = []
padded (suc n) xs = get_or xs 0 0 ∷ padded n (drop 1 xs)

behind_bytes : (xs : List ℕ) → AreBytes xs → AreBytes (drop 1 xs)
behind_bytes [] h = tt
behind_bytes (x ∷ xs) h = h.1

packed_first : (n : ℕ) (xs : List ℕ) → big_endian (suc n) xs ≡ get_or xs 0 0 * 256 ^ n + big_endian n (drop 1 xs)
packed_first n [] = let p = no_packed n in omega arith
packed_first n (x ∷ xs) = refl

then_assoc : (a b c : Ordering) → ordering_then (ordering_then a b) c ≡ ordering_then a (ordering_then b c)
then_assoc Less b c = refl
then_assoc other b c = refl

-- numbers of a higher digit and lower ones
digit : (z a b x y : ℕ) → x < z → y < z → ordering_then (nat_cmp a b) (nat_cmp x y) ≡ nat_cmp (a * z + x) (b * z + y)
digit z a b x y low_x low_y = nat_cmp_is (a * z + x) (b * z + y) (ordering_then (nat_cmp a b) (nat_cmp x y)) (by (nat_cmp a b) refl)
  where
    above : (a b x y : ℕ) → a < b → x < z → a * z + x < b * z + y
    above a b x y h low = let m : suc a * z ≤ b * z = more b h in let e : suc a * z ≡ z + a * z = omega arith in omega arith
      where
        more : (b : ℕ) → a < b → suc a * z ≤ b * z
        more zero h = absurd (omega arith)
        more (suc b) h = let k : a ≤ b = omega arith in let r = times b k in let e : suc b * z ≡ z + b * z = omega arith in let f : suc a * z ≡ z + a * z = omega arith in omega arith
          where
            times : (b : ℕ) → a ≤ b → a * z ≤ b * z
            times b k = rw (← let e : a + (b - a) ≡ b = omega arith in e) (let d : (a + (b - a)) * z ≡ a * z + (b - a) * z = omega arith in omega arith)

    by : (o : Ordering) → o ≡ nat_cmp a b → MatchOrdering (ordering_then o (nat_cmp x y)) (a * z + x < b * z + y) (a * z + x ≡ b * z + y) (b * z + y < a * z + x)
    by Less e = above a b x y (ranked a b Less e) low_x
    by Greater e = above b a y x (ranked a b Greater e) low_y
    by Equal e = same (nat_cmp x y) refl
      where
        is : a ≡ b
        is = ranked a b Equal e

        same : (o : Ordering) → o ≡ nat_cmp x y → MatchOrdering o (a * z + x < b * z + y) (a * z + x ≡ b * z + y) (b * z + y < a * z + x)
        same Less f = let l : x < y = ranked x y Less f in rw (← is) (omega arith)
        same Equal f = let l : x ≡ y = ranked x y Equal f in rw (← is) (omega arith)
        same Greater f = let l : y < x = ranked x y Greater f in rw (← is) (omega arith)

-- packed bytes are in the order of the bytes
packed_order : (n : ℕ) (x y : List ℕ) → AreBytes x → AreBytes y → nat_cmp (big_endian n x) (big_endian n y) ≡ slice_cmp nat_cmp (padded n x) (padded n y)
packed_order zero x y h g = refl
packed_order (suc n) x y h g =
    (λ i. nat_cmp (packed_first n x i) (packed_first n y i))
    ∙ sym (digit (256 ^ n) (get_or x 0 0) (get_or y 0 0) (big_endian n (drop 1 x)) (big_endian n (drop 1 y)) (packed_below n (drop 1 x) (behind_bytes x h))
    (packed_below n (drop 1 y) (behind_bytes y g)))
    ∙ ap (ordering_then (nat_cmp (get_or x 0 0) (get_or y 0 0))) (packed_order n (drop 1 x) (drop 1 y) (behind_bytes x h) (behind_bytes y g))

drop_one : (n : ℕ) (xs : List ℕ) → drop n (drop 1 xs) ≡ drop (suc n) xs
drop_one zero [] = refl
drop_one (suc n) [] = refl
drop_one n (x ∷ xs) = refl

-- first the first bytes decide, and then those behind them
split : (m n k : ℕ) (x y : List ℕ) → k ≡ m + n → slice_cmp nat_cmp (padded k x) (padded k y)
    ≡ ordering_then (slice_cmp nat_cmp (padded m x) (padded m y)) (slice_cmp nat_cmp (padded n (drop m x)) (padded n (drop m y)))
split zero n k x y e = let same : k ≡ n = omega arith in ap (λ j. slice_cmp nat_cmp (padded j x) (padded j y)) same
split (suc m) n zero x y e = absurd (omega arith)
split (suc m) n (suc k) x y e =
    ap (ordering_then (nat_cmp (get_or x 0 0) (get_or y 0 0))) (split m n k (drop 1 x) (drop 1 y) (omega arith) ∙
    (λ i. ordering_then (slice_cmp nat_cmp (padded m (drop 1 x)) (padded m (drop 1 y))) (slice_cmp nat_cmp (padded n (drop_one m x i)) (padded n (drop_one m y i)))))
    ∙ sym
    (then_assoc (nat_cmp (get_or x 0 0) (get_or y 0 0)) (slice_cmp nat_cmp (padded m (drop 1 x)) (padded m (drop 1 y))) (slice_cmp nat_cmp (padded n (drop (suc m) x)) (padded n (drop (suc m) y))))

drop_bytes : (n : ℕ) (xs : List ℕ) → AreBytes xs → AreBytes (drop n xs)
drop_bytes zero xs h = h
drop_bytes (suc n) [] h = tt
drop_bytes (suc n) (x ∷ xs) h = drop_bytes n xs h.1

pub words_order : (k : ℕ) (x y : List ℕ) → AreBytes x → AreBytes y
    → slice_cmp nat_cmp (text_words k x) (text_words k y) ≡ slice_cmp nat_cmp (padded (8 * k) x) (padded (8 * k) y)
words_order zero x y h g = refl
words_order (suc k) x y h g =
    (λ i. ordering_then (packed_order 8 x y h g i) (words_order k (drop 8 x) (drop 8 y) (drop_bytes 8 x h) (drop_bytes 8 y g) i))
    ∙ sym (split 8 (8 * k) (8 * suc k) x y (omega arith))

suc_order : (a b : ℕ) → nat_cmp a b ≡ nat_cmp (suc a) (suc b)
suc_order a b = nat_cmp_is (suc a) (suc b) (nat_cmp a b) (by (nat_cmp a b) refl)
  where
    by : (o : Ordering) → o ≡ nat_cmp a b → MatchOrdering o (suc a < suc b) (suc a ≡ suc b) (suc b < suc a)
    by Less e = let l : a < b = ranked a b Less e in omega arith
    by Equal e = let l : a ≡ b = ranked a b Equal e in omega arith
    by Greater e = let l : b < a = ranked a b Greater e in omega arith

zero_below : (b : ℕ) → Less ≡ nat_cmp 0 (suc b)
zero_below b = nat_cmp_is 0 (suc b) Less (omega arith)

above_zero : (b : ℕ) → Greater ≡ nat_cmp (suc b) 0
above_zero b = nat_cmp_is (suc b) 0 Greater (omega arith)

-- what the lengths decide where the bytes don't
low : (o : Ordering) (xs : List ℕ) → key_cmp [] xs ≡ ordering_then o (nat_cmp 0 (length xs)) → Less ≡ ordering_then o Less
low Less xs e = refl
low Equal xs e = refl
low Greater [] e = let w : Equal ≡ Greater = e in cc
low Greater (x ∷ xs) e = let w : Less ≡ Greater = e in cc

high : (o : Ordering) (xs : List ℕ) → key_cmp xs [] ≡ ordering_then o (nat_cmp (length xs) 0) → Greater ≡ ordering_then o Greater
high Greater xs e = refl
high Equal xs e = refl
high Less [] e = let w : Equal ≡ Less = e in cc
high Less (x ∷ xs) e = let w : Greater ≡ Less = e in cc

low_first : (s : Ordering) (y : ℕ) (ys : List ℕ) → key_cmp [] ys ≡ ordering_then s (nat_cmp 0 (length ys)) → Less ≡ ordering_then (ordering_then (nat_cmp 0 y) s) (nat_cmp 0 (suc (length ys)))
low_first s zero ys e = low s ys e ∙ ap (ordering_then s) (zero_below (length ys))
low_first s (suc y) ys e = λ i. ordering_then (ordering_then (zero_below y i) s) (nat_cmp 0 (suc (length ys)))

high_first : (s : Ordering) (x : ℕ) (xs : List ℕ) → key_cmp xs [] ≡ ordering_then s (nat_cmp (length xs) 0) → Greater ≡ ordering_then (ordering_then (nat_cmp x 0) s) (nat_cmp (suc (length xs)) 0)
high_first s zero xs e = high s xs e ∙ ap (ordering_then s) (above_zero (length xs))
high_first s (suc x) xs e = λ i. ordering_then (ordering_then (above_zero x i) s) (nat_cmp (suc (length xs)) 0)

key_order : (n : ℕ) (x y : List ℕ) → length x ≤ n → length y ≤ n → key_cmp x y ≡ ordering_then (slice_cmp nat_cmp (padded n x) (padded n y)) (nat_cmp (length x) (length y))
key_order zero [] [] h g = refl
key_order zero [] (y ∷ ys) h g = absurd (omega arith)
key_order zero (x ∷ xs) y h g = absurd (omega arith)
key_order (suc n) [] [] h g = key_order n [] [] (omega arith) (omega arith)
key_order (suc n) [] (y ∷ ys) h g = low_first (slice_cmp nat_cmp (padded n []) (padded n ys)) y ys (key_order n [] ys (omega arith) (omega arith))
key_order (suc n) (x ∷ xs) [] h g = high_first (slice_cmp nat_cmp (padded n xs) (padded n [])) x xs (key_order n xs [] (omega arith) (omega arith))
key_order (suc n) (x ∷ xs) (y ∷ ys) h g =
    ap (ordering_then (nat_cmp x y)) (key_order n xs ys (omega arith) (omega arith))
    ∙ sym (then_assoc (nat_cmp x y) (slice_cmp nat_cmp (padded n xs) (padded n ys)) (nat_cmp (length xs) (length ys)))
    ∙ ap (ordering_then (ordering_then (nat_cmp x y) (slice_cmp nat_cmp (padded n xs) (padded n ys)))) (suc_order (length xs) (length ys))

-- k words of eight bytes and a length decide as the bytes do
pub text_order : (k : ℕ) (x y : List ℕ) → AreBytes x → AreBytes y → length x ≤ 8 * k → length y ≤ 8 * k → key_cmp x y ≡ words_cmp (text_words k x) (length x) (text_words k y) (length y)
text_order k x y h g few_x few_y =
    key_order (8 * k) x y few_x few_y ∙ ap (λ o. ordering_then o (nat_cmp (length x) (length y))) (sym (words_order k x y h g))

both_equal : (o rest : Ordering) → ordering_then o rest ≡ Equal → (o ≡ Equal) × (rest ≡ Equal)
both_equal Less rest e = let w : Less ≡ Equal = e in cc
both_equal Equal rest e = (refl, e)
both_equal Greater rest e = let w : Greater ≡ Equal = e in cc

-- where the first k bytes are the same, and one has no more of them, the lengths decide
pub lead_order : (k : ℕ) (x y : List ℕ) → length y ≤ k → slice_cmp nat_cmp (padded k x) (padded k y) ≡ Equal → key_cmp x y ≡ nat_cmp (length x) (length y)
lead_order k [] [] few e = refl
lead_order k [] (y ∷ ys) few e = zero_below (length ys)
lead_order k (x ∷ xs) [] few e = above_zero (length xs)
lead_order zero (x ∷ xs) (y ∷ ys) few e = absurd (omega arith)
lead_order (suc k) (x ∷ xs) (y ∷ ys) few e =
    let first = both_equal (nat_cmp x y) (slice_cmp nat_cmp (padded k xs) (padded k ys)) e in
    ap (λ o. ordering_then o (key_cmp xs ys)) first.0 ∙ lead_order k xs ys (omega arith) first.1 ∙ suc_order (length xs) (length ys)
