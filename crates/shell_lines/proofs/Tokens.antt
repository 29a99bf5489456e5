-- Laws of tokens.
use Rattle.std.proofs.Common.{◌≡◌, ℕ, ◌+◌, ◌*◌, ◌%◌, ◌<◌, List, [], ◌∷◌, length, drop, slice_index, refl, sym, ap, ◌∙◌, arith, ◌⊎◌, inl, inr, Option, Some}
use Rattle.std.proofs.Common.{None, Result, Ok, Err, Bool, true, false, ◌&&◌, not, nat_lt, ◌==◌, cond}
use Rattle.std.specs.Result.{result_ok}
use Rattle.std.proofs.lemmas.Bool.Decides.{nat_tests}
use Rattle.std.proofs.lemmas.List.Sums.{AllPass-from_list_all, list_all-from_AllPass}
use Rattle.std.specs.List.{list_all}
use Rattle.bw_model.specs.Bytes.{longest}
use Rattle.hex.specs.Hex.{decode_of, decode_pairs, value_at, pair_value, digit_or_error, hex_digit_value, ◌>>=◌, IsBytes, encode_lower, is_hex_digit}
use Rattle.hex.specs.declared.error.FromHexError.{FromHexError}
use Rattle.hex.proofs.HexLemmas.{decode_of-encode_lower, decode_of-ok, decode_of-digits, decode_of-even}
use Rattle.shell_lines.specs.Token.{IsDigitOf, SpellsBytes, Means, token_value, is_word, as_token}

-- a digit's value is what the grammar says
digit_is : (c v : ℕ) → hex_digit_value c ≡ Some v → IsDigitOf c v
digit_is c v h = grind (arith)

is_digit : (c v : ℕ) → IsDigitOf c v → hex_digit_value c ≡ Some v
is_digit c v h = grind (arith)

value_read : (c i : ℕ) (o : Option ℕ) (v : ℕ) → digit_or_error c i o ≡ Ok v → o ≡ Some v
value_read c i (Some w) v h = ap Some (cc)
value_read c i None v h = cc h

then_ok : {A B : Type 0} (r : Result A FromHexError) (f : A → Result B FromHexError) (y : B)
    → (r >>= f) ≡ Ok y → (x : A) × (r ≡ Ok x) × (f x ≡ Ok y)
then_ok (Ok x) f y h = (x, refl, h)
then_ok (Err e) f y h = cc h

-- what decodes is spelled
pub spells_decoded : (i : ℕ) (digits bytes : List ℕ) → decode_pairs i digits ≡ Ok bytes → SpellsBytes digits bytes
unfolding decode_pairs
spells_decoded i [] [] h = tt
spells_decoded i [] (b ∷ bytes) h = cc h
spells_decoded i (d ∷ []) bytes h = cc h
spells_decoded i (high ∷ low ∷ digits) [] h =
    let p0 = then_ok (pair_value high low i) _ [] h in
    let p3 = then_ok (decode_pairs (i + 2) digits) _ [] p0.2 in
    cc p3.2
spells_decoded i (high ∷ low ∷ digits) (byte ∷ bytes) h =
    let p0 = then_ok (pair_value high low i) _ (byte ∷ bytes) h in
    let p1 = then_ok (value_at high i) _ p0.0 p0.1 in
    let p2 = then_ok (value_at low (i + 1)) _ p0.0 p1.2 in
    let p3 = then_ok (decode_pairs (i + 2) digits) _ (byte ∷ bytes) p0.2 in
    let rest : p3.0 ≡ bytes = cc p3.2 in
    let same : p0.0 ≡ byte = cc p3.2 in
    let sum : p1.0 * 16 + p2.0 ≡ p0.0 = cc p2.2 in (
      p1.0,
      p2.0,
      digit_is high p1.0 (value_read high i (hex_digit_value high) p1.0 p1.1),
      digit_is low p2.0 (value_read low (i + 1) (hex_digit_value low) p2.0 p2.1),
      omega arith,
      spells_decoded (i + 2) digits bytes (p3.1 ∙ ap Ok rest),
    )

-- what is spelled decodes
pub decodes_spelled : (i : ℕ) (digits bytes : List ℕ) → SpellsBytes digits bytes → decode_pairs i digits ≡ Ok bytes
unfolding decode_pairs
decodes_spelled i [] [] h = refl
decodes_spelled i (high ∷ low ∷ digits) (byte ∷ bytes) h =
    let a = is_digit high h.0 h.2 in
    let b = is_digit low h.1 h.3 in
    let ih = decodes_spelled (i + 2) digits bytes h.5 in
    let sum : h.0 * 16 + h.1 ≡ byte = omega (arith, h.4) in
    rw (a, b, ih, sum) refl
decodes_spelled i digits bytes h = absurd h

even_spelled : (digits bytes : List ℕ) → SpellsBytes digits bytes → length digits % 2 ≡ 0
even_spelled [] [] h = refl
even_spelled (high ∷ low ∷ digits) (byte ∷ bytes) h = let ih = even_spelled digits bytes h.5 in omega arith
even_spelled digits bytes h = absurd h

-- `decode_of` by the grammar
pub decode_is : (digits bytes : List ℕ) → decode_of digits ≡ Ok bytes → SpellsBytes digits bytes
decode_is digits bytes h =
    let even = decode_of-ok digits bytes h in
    spells_decoded 0 digits bytes (sym (decode_of-even digits even.0) ∙ h)

pub is_decode : (digits bytes : List ℕ) → SpellsBytes digits bytes → decode_of digits ≡ Ok bytes
is_decode digits bytes h = decode_of-even digits (even_spelled digits bytes h) ∙ decodes_spelled 0 digits bytes h

-- ---- tokens

pub chosen : {A : Type 0} (b : Bool) (x y z : A) → cond b x y ≡ z → ((b ≡ true) × (x ≡ z)) ⊎ ((b ≡ false) × (y ≡ z))
chosen true x y z h = inl (refl, h)
chosen false x y z h = inr (refl, h)

ok_of : {A : Type 0} (r : Result A FromHexError) (x : A) → result_ok r ≡ Some x → r ≡ Ok x
ok_of (Ok y) x h = ap Ok (cc)
ok_of (Err e) x h = cc h

begins : (t : List ℕ) → (nat_lt 0 (length t) && (slice_index t 0 == 61)) ≡ true → t ≡ 61 ∷ drop 1 t
begins [] h = cc h
begins (b ∷ bs) h = let e : b ≡ 61 = grind (arith, nat_tests) in rw e refl

has_first : (b : ℕ) (bs : List ℕ) → nat_lt 0 (length (b ∷ bs)) ≡ true
has_first b bs = grind (arith, nat_tests)

not_equals : (a b c : Bool) → ((a && not b) && c) ≡ true → (a && b) ≡ false
not_equals true true c h = cc h
not_equals true false c h = refl
not_equals false b c h = refl

pub value_means : (t v : List ℕ) → token_value t ≡ Some v → Means t v
value_means t v h =
    elim (chosen (nat_lt 0 (length t) && (slice_index t 0 == 61)) _ _ (Some v) h) [
      | inl p ↦ inr (drop 1 t, begins t p.0, decode_is (drop 1 t) v (ok_of (decode_of (drop 1 t)) v p.1))
      | inr q ↦
          elim (chosen (is_word t) _ _ (Some v) q.1) [
            | inl w ↦ let same : t ≡ v = cc w.1 in inl (w.0, sym same)
            | inr n ↦ cc n.1
          ]
    ]

pub means_value : (t v : List ℕ) → Means t v → token_value t ≡ Some v
means_value t v (inl w) =
    let first = not_equals (nat_lt 0 (length t)) (slice_index t 0 == 61) _ w.0 in
    rw (first, w.0, w.1) refl
means_value t v (inr d) =
    let some : nat_lt 0 (length (61 ∷ d.0)) ≡ true = has_first 61 d.0 in
    rw (d.1, some, is_decode d.0 v d.2) refl

pub some_is : {A : Type 0} (x y : A) → Some x ≡ Some y → x ≡ y
some_is x y h = cc h

pub one_meaning : (t a b : List ℕ) → Means t a → Means t b → a ≡ b
one_meaning t a b ma mb = some_is a b (sym (means_value t a ma) ∙ means_value t b mb)

pub printed_means : (bytes : List ℕ) → IsBytes bytes → Means (as_token bytes) bytes
printed_means bytes h = at (is_word bytes) refl
  where
    at : (b : Bool) → is_word bytes ≡ b → Means (cond b bytes (61 ∷ encode_lower bytes)) bytes
    at true e = inl (e, refl)
    at false e = inr (encode_lower bytes, refl, decode_is (encode_lower bytes) bytes (decode_of-encode_lower bytes h))

-- ---- pairs of digits

pub no_digits : (s : List ℕ) → list_all is_hex_digit s ≡ false → result_ok (decode_of s) ≡ None
no_digits s h = at (decode_of s) refl
  where
    at : (r : Result (List ℕ) FromHexError) → decode_of s ≡ r → result_ok r ≡ None
    at (Ok bytes) e = cc (sym (list_all-from_AllPass is_hex_digit s (decode_of-ok s bytes e).1) ∙ h)
    at (Err x) e = refl

pub long_digits : (s : List ℕ) → length s % 2 ≡ 0 → list_all is_hex_digit s ≡ true → 2 * longest < length s
    → (bytes : List ℕ) × (result_ok (decode_of s) ≡ Some bytes) × (longest < length bytes)
long_digits s even digits long =
    let d = decode_of-digits s even (AllPass-from_list_all is_hex_digit s digits) in
    let len = (decode_of-ok s d.0 d.1).2 in
    (d.0, rw d.1 refl, omega (arith, len))
