-- The least key above a key: what its bytes are.
use Rattle.walks.proofs.Words.{Bool, List, None, Some, above_in, above_rest, ap, append-nil, arith, drop, false, if◌then◌else◌, key_above, length, longest}
use Rattle.walks.proofs.Words.{lt-ltb, nat_lt, refl, subst, suc, sym, take, true, zero, ℕ, [], ◌++◌, ◌+◌, ◌-◌, ◌<◌, ◌∙◌, ◌∷◌, ◌≡◌, ◌≤◌}
use Rattle.std.proofs.Common.{get_or, slice_set}

-- where there is room for a byte more
pub above_short : (room : ℕ) (key : List ℕ) → length key < room → above_in room key ≡ Some (key ++ 0 ∷ [])
above_short zero key few = absurd (omega (arith, few))
above_short (suc room) [] few = ap (λ (b : Bool). if b then Some (0 ∷ []) else None) (lt-ltb 0 (suc room) (omega arith))
above_short (suc room) (byte ∷ rest) few = ap (above_rest byte) (above_short (suc room - 1) rest (omega (arith, few)))

-- behind a byte that isn't the greatest nothing is above
pub above_byte : (room : ℕ) (key : List ℕ) (place : ℕ) → place < length key → above_in (room - suc place) (drop (suc place) key) ≡ None
    → nat_lt (get_or key place 0) 255 ≡ true
    → above_in room key ≡ Some (take place key ++ (get_or key place 0 + 1) ∷ [])
above_byte room [] place within none less = absurd (omega (arith, within))
above_byte room (byte ∷ rest) zero within none less =
    ap (above_rest byte) none ∙ ap (λ (b : Bool). if b then Some ((byte + 1) ∷ []) else None) less
above_byte room (byte ∷ rest) (suc place) within none less =
    ap (above_rest byte) (above_byte (room - 1) rest place (omega (arith, within)) (ap (λ n. above_in n (drop (suc place) rest)) (omega arith) ∙ none) less)

-- nor where it is
pub above_greatest : (room byte : ℕ) (rest : List ℕ) → nat_lt byte 255 ≡ false → above_in (room - 1) rest ≡ None → above_in room (byte ∷ rest) ≡ None
above_greatest room byte rest most none = ap (above_rest byte) none ∙ ap (λ (b : Bool). if b then Some ((byte + 1) ∷ []) else None) most

abbrev pub zeros : ℕ → List ℕ
zeros zero = []
zeros (suc n) = 0 ∷ zeros n

drop_zeros : (n k : ℕ) → n < k → drop n (zeros k) ≡ 0 ∷ zeros (k - n - 1)
drop_zeros n zero less = absurd (omega (arith, less))
drop_zeros zero (suc k) less = ap (λ n. 0 ∷ zeros n) (omega arith)
drop_zeros (suc n) (suc k) less = drop_zeros n k (omega (arith, less)) ∙ ap (λ m. 0 ∷ zeros m) (omega arith)

take_past : (front rest : List ℕ) (byte : ℕ) → take (length front + 1) (front ++ byte ∷ rest) ≡ front ++ byte ∷ []
take_past [] rest byte = refl
take_past (first ∷ front) rest byte =
    let one_more : length (first ∷ front) + 1 ≡ suc (length front + 1) = omega arith in
    ap (λ n. take n (first ∷ front ++ byte ∷ rest)) one_more ∙ ap (λ bytes. first ∷ bytes) (take_past front rest byte)

none_left : (key : List ℕ) → drop (length key) key ≡ []
none_left [] = refl
none_left (byte ∷ rest) = none_left rest

-- from an array that begins with the key's bytes
pub short_is : (front written key taken : List ℕ) → front ≡ key → length front < longest → written ≡ front
    → taken ≡ take (length front + 1) (written ++ drop (length front) (zeros longest)) → Some taken ≡ key_above key
short_is front written key taken is few same e =
    ap (λ (bytes : List ℕ). Some bytes)
    (e ∙ ap (λ bytes. take (length front + 1) (bytes ++ drop (length front) (zeros longest))) same
    ∙ ap (λ bytes. take (length front + 1) (front ++ bytes)) (drop_zeros (length front) longest few) ∙ take_past front _ 0)
    ∙ sym (above_short longest front few) ∙ ap key_above is

pub full_is : (front written key : List ℕ) → front ≡ key → length front ≡ longest → written ≡ front → written ++ drop (length front) (zeros longest) ≡ key
full_is front written key is full same =
    ap (λ bytes. bytes ++ drop (length front) (zeros longest)) same ∙ ap (λ n. front ++ drop n (zeros longest)) full ∙ append-nil front ∙ is

pub none_behind : (key : List ℕ) → length key ≡ longest → above_in (longest - longest) (drop longest key) ≡ None
none_behind key full = ap (λ bytes. above_in (longest - longest) bytes) (ap (λ n. drop n key) (sym full) ∙ none_left key)

take_set : (key : List ℕ) (place byte : ℕ) → place < length key → take (suc place) (slice_set key place byte) ≡ take place key ++ byte ∷ []
take_set [] place byte within = absurd (omega (arith, within))
take_set (first ∷ rest) zero byte within = refl
take_set (first ∷ rest) (suc place) byte within = ap (λ bytes. first ∷ bytes) (take_set rest place byte (omega (arith, within)))

-- in the array that is the key, the byte before this place is one more
pub raised_is : (bytes key taken : List ℕ) (place : ℕ) → bytes ≡ key → 0 < place → place ≤ longest → length key ≡ longest
    → above_in (longest - place) (drop place key) ≡ None → get_or bytes (place - 1) 0 < 255
    → taken ≡ take (place - 1 + 1) (slice_set bytes (place - 1) (get_or bytes (place - 1) 0 + 1)) → Some taken ≡ key_above key
raised_is bytes key taken zero same some fits full none less e = absurd (omega (arith, some))
raised_is bytes key taken (suc place) same some fits full none less e =
    let there : suc place - 1 ≡ place = omega arith in
    let one_more : suc place - 1 + 1 ≡ suc place = omega arith in
    let within : place < length key = omega (arith, fits, full) in
    let lower : get_or key place 0 < 255 = subst (λ (z : List ℕ × ℕ). get_or z.0 z.1 0 < 255) (λ i. (same i, there i)) less in
    ap (λ (bytes : List ℕ). Some bytes)
    (e ∙ (λ i. take (one_more i) (slice_set (same i) (there i) (get_or (same i) (there i) 0 + 1))) ∙ take_set key place (get_or key place 0 + 1) within)
    ∙ sym (above_byte longest key place within none (lt-ltb (get_or key place 0) 255 lower))
