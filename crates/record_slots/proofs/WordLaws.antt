-- The bytes of a word.
use Rattle.std.proofs.Common.{◌≡◌, ◌==◌, ◌<◌, ◌≤◌, ◌+◌, ◌*◌, ◌-◌, ◌^◌, inl, inr, ℕ, zero, suc, List, [], ◌∷◌, length, get_or, take, drop, refl, sym, ap, subst, ◌∙◌, arith}
use Rattle.std.specs.Prelude.{◌&&◌, bit_or}
use Rattle.std.specs.Int.Bits.{or_zero_l}
use Rattle.std.specs.List.{AllByRecursion}
use Rattle.std.proofs.lemmas.Nat.{le_or_l, pow-add, pow_pos, pow_below}
use Rattle.std.proofs.lemmas.Bool.{cases_lt}
use Rattle.std.proofs.Math.Dec.{eqb-suc-zero}
use Rattle.std.proofs.Math.Nat.{pow-succ', mul-le-mul_left, mul_assoc, add-mul}
use Rattle.record_slots.specs.Spelling.{big_endian}

abbrev pub AreBytes : List ℕ → Type 0
AreBytes = AllByRecursion (λ byte. byte < 256)

pub pow_bytes : (n : ℕ) → 2 ^ (8 * n) ≡ 256 ^ n
pow_bytes zero = refl
pow_bytes (suc n) =
    let e : 8 * suc n ≡ 8 * n + 8 = omega arith in
    let b : 2 ^ (8 * n + 8) ≡ 2 ^ (8 * n) * 256 = pow-add 2 (8 * n) 8 in
    let h = pow_bytes n in
    let d = pow-succ' 256 n in
    let swap : 2 ^ (8 * n) * 256 ≡ 256 * 256 ^ n = omega arith in
    ap (λ k. 2 ^ k) e ∙ b ∙ swap ∙ sym d

pub some_bytes : (n : ℕ) → 0 < 256 ^ n
some_bytes n = subst (λ k. 0 < k) (pow_bytes n) (pow_pos (8 * n))

pub packed_below : (n : ℕ) (xs : List ℕ) → AreBytes xs → big_endian n xs < 256 ^ n
packed_below zero xs h = omega arith
packed_below (suc n) [] h = some_bytes (suc n)
packed_below (suc n) (x ∷ xs) h =
    let e = pow-succ' 256 n in
    let r = packed_below n xs h.1 in
    let low = h.0 in
    let le : 256 ^ n * suc x ≤ 256 ^ n * 256 = mul-le-mul_left (256 ^ n) (omega arith) in
    let s : 256 ^ n * suc x ≡ x * 256 ^ n + 256 ^ n = omega arith in
    omega arith

pub bytes_at : (xs : List ℕ) → AreBytes xs → (i : ℕ) → get_or xs i 0 < 256
bytes_at [] h i = omega arith
bytes_at (x ∷ xs) h zero = h.0
bytes_at (x ∷ xs) h (suc i) = bytes_at xs h.1 i

pub no_packed : (n : ℕ) → big_endian n [] ≡ 0
no_packed zero = refl
no_packed (suc n) = refl

-- what few bytes are packed to ends in zeros
pub multiple : (k m n : ℕ) (xs : List ℕ) → n ≡ k + m → length xs ≤ k → (q : ℕ) × big_endian n xs ≡ q * 256 ^ m
multiple k m n [] e few = let z : 0 ≡ 0 * 256 ^ m = omega arith in (0, no_packed n ∙ z)
multiple zero m n (x ∷ xs) e few = absurd (omega arith)
multiple (suc k) m zero (x ∷ xs) e few = absurd (omega arith)
multiple (suc k) m (suc n) (x ∷ xs) e few =
    let r = multiple k m n xs (omega arith) (omega arith) in
    let sum : n ≡ k + m = omega arith in
    let power : 256 ^ n ≡ 256 ^ k * 256 ^ m = ap (λ j. 256 ^ j) sum ∙ pow-add 256 k m in
    let first : x * 256 ^ n ≡ (x * 256 ^ k) * 256 ^ m = ap (λ p. x * p) power ∙ sym (mul_assoc x (256 ^ k) (256 ^ m)) in
    let spread : (x * 256 ^ k + r.0) * 256 ^ m ≡ (x * 256 ^ k) * 256 ^ m + r.0 * 256 ^ m = add-mul (x * 256 ^ k) r.0 (256 ^ m) in
    (x * 256 ^ k + r.0, (λ i. first i + r.1 i) ∙ sym spread)

-- the first bytes and the others make up the whole
pub packed_split : (k m n : ℕ) (xs : List ℕ) → n ≡ k + m → big_endian n xs ≡ big_endian n (take k xs) + big_endian m (drop k xs)
packed_split zero m n xs e =
    let same : n ≡ m = omega arith in
    let z : big_endian m xs ≡ 0 + big_endian m xs = omega arith in
    ap (λ j. big_endian j xs) same ∙ z ∙ (λ i. sym (no_packed n) i + big_endian m xs)
packed_split (suc k) m zero xs e = absurd (omega arith)
packed_split (suc k) m (suc n) [] e = let z = no_packed m in omega arith
packed_split (suc k) m (suc n) (x ∷ xs) e = let r = packed_split k m n xs (omega arith) in omega arith

-- the byte at a place is the highest of those from it on
packed_at : (n place : ℕ) (bytes : List ℕ) → big_endian (suc n) (drop place bytes) ≡ get_or bytes place 0 * 256 ^ n + big_endian n (drop (suc place) bytes)
packed_at n zero [] = let p = no_packed n in omega arith
packed_at n zero (byte ∷ bytes) = refl
packed_at n (suc place) [] = let p = no_packed n in omega arith
packed_at n (suc place) (byte ∷ bytes) = packed_at n place bytes

-- one byte more
pub packed_more : (word byte n place whole : ℕ) (bytes : List ℕ) → byte ≡ get_or bytes place 0 → word * 256 ^ suc n + big_endian (suc n) (drop place bytes) ≡ whole
    → (word * 256 + byte) * 256 ^ n + big_endian n (drop (suc place) bytes) ≡ whole
packed_more word byte n place whole bytes is before =
    let more : word * 256 ^ suc n ≡ (word * 256) * 256 ^ n = ap (λ p. word * p) (pow-succ' 256 n) ∙ sym (mul_assoc word 256 (256 ^ n)) in
    let at = packed_at n place bytes in
    let byte_is : byte * 256 ^ n ≡ get_or bytes place 0 * 256 ^ n = ap (λ b. b * 256 ^ n) is in
    let spread : (word * 256 + byte) * 256 ^ n ≡ (word * 256) * 256 ^ n + byte * 256 ^ n = add-mul (word * 256) byte (256 ^ n) in
    omega arith

bytes_mono : (n : ℕ) → n ≤ 7 → 256 ^ n ≤ 256 ^ 7
bytes_mono n h = elim (cases_lt n 7) [
  | inl lt ↦ let p : 2 ^ (8 * n) < 2 ^ 56 = pow_below (8 * n) 56 (omega arith) in let e = pow_bytes n in omega arith
  | inr ge ↦ let e : n ≡ 7 = omega arith in let f : 256 ^ n ≡ 256 ^ 7 = ap (λ k. 256 ^ k) e in omega arith
]

pub word_room : (word n : ℕ) → n ≤ 7 → word < 256 ^ n → word * 256 + 256 ≤ 2 ^ 64
word_room word n few fits = let m = bytes_mono n few in omega arith

pub byte_more : (word byte n : ℕ) → byte < 256 → word < 256 ^ n → word * 256 + byte < 256 ^ suc n
byte_more word byte n small fits = let e = pow-succ' 256 n in omega arith

-- of two words nothing stands in either where nothing stands in both together
pub or_zeros : (a b : ℕ) → (bit_or a b == 0) ≡ ((a == 0) && (b == 0))
or_zeros zero b = ap (λ n. n == 0) (or_zero_l b)
or_zeros (suc a) b =
    let least = le_or_l (suc a) b in
    let more : bit_or (suc a) b ≡ suc (bit_or (suc a) b - 1) = omega (arith, least) in
    ap (λ n. n == 0) more ∙ eqb-suc-zero (bit_or (suc a) b - 1) ∙ ap (λ none. none && (b == 0)) (sym (eqb-suc-zero a))
