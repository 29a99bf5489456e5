-- Numbers that 64 bits hold.
use Rattle.std.proofs.Common.{◌≡◌, ℕ, ◌+◌, ◌-◌, ◌*◌, ◌^◌, ◌<◌, ◌≤◌, List, [], ◌∷◌, length, drop, slice_index, sym, ap, ◌∙◌, refl, arith, inl, inr, Option, Some, None, true, false, nat_lt}
use Rattle.std.specs.Option.{option_and_then}
use Rattle.std.proofs.lemmas.Bool.Decides.{nat_tests}
use Rattle.shell_lines.specs.Number.{fitting, is_digit, number_after, number_of}
use Rattle.shell_lines.proofs.Splits.{number_more}
use Rattle.shell_lines.proofs.Tokens.{chosen, some_is}

-- digits behind a number make it no smaller
after_grows : (n : ℕ) (cs : List ℕ) (k : ℕ) → number_after n cs ≡ Some k → n ≤ k
after_grows n [] k h = let same = some_is n k h in omega arith
after_grows n (c ∷ cs) k h =
    elim (chosen (is_digit c) _ _ (Some k) h) [
      | inl p ↦ let ih = after_grows (10 * n + (c - 48)) cs k p.1 in omega arith
      | inr q ↦ cc q.1
    ]

too_great : (n : ℕ) (cs : List ℕ) → 2 ^ 64 ≤ n → option_and_then fitting (number_after n cs) ≡ None
too_great n cs great = at (number_after n cs) refl
  where
    at : (o : Option ℕ) → number_after n cs ≡ o → option_and_then fitting o ≡ None
    at None e = refl
    at (Some k) e = let grown = after_grows n cs k e in let no : nat_lt k (2 ^ 64) ≡ false = grind (arith, nat_tests, grown, great) in rw no refl

some_digits : (text : List ℕ) → (length text ≡ 0 → ⊥) → number_of text ≡ number_after 0 text
some_digits [] some = absurd (some refl)
some_digits (c ∷ cs) some = refl

-- one digit more is too much
pub overflows : (text : List ℕ) (i n : ℕ) → i < length text → is_digit (slice_index text i) ≡ true → number_after n (drop i text) ≡ number_after 0 text
    → 2 ^ 64 ≤ 10 * n + (slice_index text i - 48) → option_and_then fitting (number_of text) ≡ None
overflows text i n h digit so_far great =
    ap (option_and_then fitting) (some_digits text (λ e. omega arith) ∙ sym so_far ∙ number_more text i n h digit)
    ∙ too_great (10 * n + (slice_index text i - 48)) (drop (i + 1) text) great

pub fits_all : (text : List ℕ) (n : ℕ) → (length text ≡ 0 → ⊥) → n < 2 ^ 64 → number_after 0 text ≡ Some n → option_and_then fitting (number_of text) ≡ Some n
fits_all text n some low is =
    let yes : nat_lt n (2 ^ 64) ≡ true = grind (arith, nat_tests, low) in
    ap (option_and_then fitting) (some_digits text some ∙ is) ∙ rw yes refl

pub not_below : (a b : ℕ) → (a < b → ⊥) → b ≤ a
not_below a b h = omega arith
