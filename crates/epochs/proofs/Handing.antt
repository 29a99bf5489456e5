-- The first word with numbers that may be freed, and its bits, one entry after another.
use Rattle.std.proofs.Common.{◌≡◌, ◌≢◌, ◌<◌, ◌+◌, ◌*◌, ◌/◌, ◌%◌, ◌^◌, ◌⊎◌, ℕ, Option, None, Some, List, length, get_or, take, Bool, true, false, eqb, eq-eqb}
use Rattle.std.proofs.Common.{ne_eqb, refl, sym, ap, ◌∙◌, arith, rules, inl, inr}
use Rattle.std.specs.Prelude.{bit_or, ◌||◌, ◌&&◌}
use Rattle.std.specs.Int.{w64}
use Rattle.std.proofs.lemmas.Bool.{cases_eq, cases_lt, or_cases, eqb-true}
use Rattle.std.proofs.lemmas.List.Folds.{list_any_more}
use Rattle.std.proofs.lemmas.Nat.Bits.{bit_at_set_same, bit_at_set_other}
use Rattle.epochs.specs.declared.entry.Entry.{Entry}
use Rattle.epochs.specs.Limbo.{is_passed}
use Rattle.tree_limits.specs.Words.{is_among}
use Rattle.epochs.specs.Words.{AreBitsOf, IsFirstWord, IsFirstPlace, lower, may_go}

or_false : (f : Bool) → (f || false) ≡ f
or_false true = refl
or_false false = refl

and_false : (f : Bool) → (f && false) ≡ false
and_false true = refl
and_false false = refl

or_true : (f : Bool) → (f || true) ≡ true
or_true true = refl
or_true false = refl

pub both : (f g : Bool) → (f && g) ≡ true → f ≡ true
both true g e = refl
both false g e = e

pub second : (f g : Bool) → (f && g) ≡ true → g ≡ true
second true g e = e
second false true e = refl
second false false e = e

-- one entry more
may_go_more : (entries : List Entry) (i : ℕ) (d : Entry) (n : ℕ) → i < length entries
    → may_go (take (i + 1) entries) n ≡ (may_go (take i entries) n || ((eqb (get_or entries i d).number n) && is_passed (get_or entries i d).stage))
may_go_more entries i d n lt = list_any_more (λ (entry : Entry). eqb entry.number n && is_passed entry.stage) entries i d lt

-- An entry that may not be freed changes nothing.
may_go_same : (entries : List Entry) (i : ℕ) (d : Entry) (n : ℕ) → i < length entries → is_passed (get_or entries i d).stage ≡ false → may_go (take (i + 1) entries) n ≡ may_go (take i entries) n
may_go_same entries i d n lt stays = may_go_more entries i d n lt ∙ rw (stays, and_false (eqb (get_or entries i d).number n)) (or_false (may_go (take i entries) n))

-- Nor does any entry change anything of another number.
may_go_other : (entries : List Entry) (i : ℕ) (d : Entry) (n : ℕ) → i < length entries → (get_or entries i d).number ≢ n → may_go (take (i + 1) entries) n ≡ may_go (take i entries) n
may_go_other entries i d n lt other = may_go_more entries i d n lt ∙ rw (ne_eqb (get_or entries i d).number n other) (or_false (may_go (take i entries) n))

-- One that may be freed is there afterwards,
may_go_own : (entries : List Entry) (i : ℕ) (d : Entry) → i < length entries → is_passed (get_or entries i d).stage ≡ true → may_go (take (i + 1) entries) (get_or entries i d).number ≡ true
may_go_own entries i d lt passed =
    may_go_more entries i d (get_or entries i d).number lt
    ∙ rw (passed, eq-eqb (get_or entries i d).number (get_or entries i d).number refl) (or_true (may_go (take i entries) (get_or entries i d).number))

-- as is what was there before;
may_go_still : (entries : List Entry) (i : ℕ) (d : Entry) (n : ℕ) → i < length entries → may_go (take i entries) n ≡ true → may_go (take (i + 1) entries) n ≡ true
may_go_still entries i d n lt there = may_go_more entries i d n lt ∙ rw there refl

-- and nothing else.
may_go_from : (entries : List Entry) (i : ℕ) (d : Entry) (n : ℕ) → i < length entries → may_go (take (i + 1) entries) n ≡ true → (may_go (take i entries) n ≡ true) ⊎ ((get_or entries i d).number ≡ n)
may_go_from entries i d n lt there =
    elim (or_cases (may_go (take i entries) n) (eqb (get_or entries i d).number n && is_passed (get_or entries i d).stage) (sym (may_go_more entries i d n lt) ∙ there)) [
      | inl before ↦ inl before
      | inr own ↦ inr (eqb-true (get_or entries i d).number n (both (eqb (get_or entries i d).number n) (is_passed (get_or entries i d).stage) own))
    ]

pub first_same : (entries : List Entry) (i : ℕ) (d : Entry) (first : Option ℕ) → i < length entries → is_passed (get_or entries i d).stage ≡ false
    → IsFirstPlace (take i entries) first → IsFirstPlace (take (i + 1) entries) first
first_same entries i d None lt stays is = λ n. may_go_same entries i d n lt stays ∙ is n
first_same entries i d (Some word) lt stays is = record {
  some = (is.some.0, is.some.1, may_go_still entries i d is.some.0 lt is.some.2);
  first = λ n there. is.first n (sym (may_go_same entries i d n lt stays) ∙ there);
}

pub first_more : (entries : List Entry) (i : ℕ) (d : Entry) (first : Option ℕ) → i < length entries → is_passed (get_or entries i d).stage ≡ true
    → IsFirstPlace (take i entries) first → IsFirstWord (take (i + 1) entries) (lower first ((get_or entries i d).number / 64))
first_more entries i d None lt passed is = record {
  some = ((get_or entries i d).number, refl, may_go_own entries i d lt passed);
  first = λ n there. elim (may_go_from entries i d n lt there) [
    | inl before ↦ absurd (differ (sym (is n) ∙ before))
    | inr own ↦ rw own (omega arith)
  ];
}
  where
    differ : false ≡ true → ⊥
    differ e = search rules
first_more entries i d (Some word) lt passed is = record {
  some = elim (cases_lt word ((get_or entries i d).number / 64)) [
    | inl below ↦ (is.some.0, omega (arith, below, is.some.1), may_go_still entries i d is.some.0 lt is.some.2)
    | inr above ↦ ((get_or entries i d).number, omega (arith, above), may_go_own entries i d lt passed)
  ];
  first = λ n there. elim (may_go_from entries i d n lt there) [
    | inl before ↦ omega (arith, is.first n before)
    | inr own ↦ rw own (omega arith)
  ];
}

-- the bit of a number in its word
abbrev bit_of : ℕ → ℕ
bit_of n = 1 * 2 ^ (n % 64) % 2 ^ 64

-- The entry is one of the word, and may be freed.
abbrev goes_with : ℕ → Entry → Bool
goes_with word entry = eqb (entry.number / 64) word && is_passed entry.stage

pub bits_more : (entries : List Entry) (i : ℕ) (d : Entry) (word bits : ℕ) → i < length entries → goes_with word (get_or entries i d) ≡ true
    → AreBitsOf (take i entries) word bits → AreBitsOf (take (i + 1) entries) word (bit_or bits (bit_of (get_or entries i d).number))
bits_more entries i d word bits lt goes is = λ n. at n (cases_eq (n / 64) word) (cases_eq (get_or entries i d).number n)
  where
    own : ℕ
    own = (get_or entries i d).number

    place : own / 64 ≡ word
    place = eqb-true (own / 64) word (both (eqb (own / 64) word) (is_passed (get_or entries i d).stage) goes)

    passed : is_passed (get_or entries i d).stage ≡ true
    passed = second (eqb (own / 64) word) (is_passed (get_or entries i d).stage) goes

    small : own % 64 < 64
    small = omega arith

    at : (n : ℕ) → (n / 64 ≡ word) ⊎ (n / 64 ≢ word) → (own ≡ n) ⊎ (own ≢ n) → is_among word (bit_or bits (bit_of own)) n ≡ (eqb (n / 64) word && may_go (take (i + 1) entries) n)
    at n (inr away) which = rw (ne_eqb (n / 64) word away) refl
    at n (inl here) (inl same) = rw (← same, place, eq-eqb word word refl, bit_at_set_same w64 bits (own % 64) small, may_go_own entries i d lt passed) refl
    at n (inl here) (inr other) =
        let apart : n % 64 ≢ own % 64 = λ e. other (omega (arith, e, here, place)) in
        rw (bit_at_set_other w64 bits (own % 64) small (n % 64) apart, may_go_other entries i d n lt other) (is n)

pub bits_same : (entries : List Entry) (i : ℕ) (d : Entry) (word bits : ℕ) → i < length entries → goes_with word (get_or entries i d) ≡ false
    → AreBitsOf (take i entries) word bits → AreBitsOf (take (i + 1) entries) word bits
bits_same entries i d word bits lt stays is = λ n. at n (cases_eq own n) (cases_eq (own / 64) word)
  where
    own : ℕ
    own = (get_or entries i d).number

    at : (n : ℕ) → (own ≡ n) ⊎ (own ≢ n) → (own / 64 ≡ word) ⊎ (own / 64 ≢ word) → is_among word bits n ≡ (eqb (n / 64) word && may_go (take (i + 1) entries) n)
    at n (inr other) which = rw (may_go_other entries i d n lt other) (is n)
    at n (inl same) (inl here) =
        let kept : is_passed (get_or entries i d).stage ≡ false = rw (eq-eqb (own / 64) word here) at stays in
        rw (may_go_same entries i d n lt kept) (is n)
    at n (inl same) (inr away) =
        let off : n / 64 ≢ word = λ e. away (ap (λ m. m / 64) same ∙ e) in
        rw (ne_eqb (n / 64) word off) refl
