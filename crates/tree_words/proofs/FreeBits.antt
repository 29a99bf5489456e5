-- Words of free bits.
use Rattle.std.proofs.Common.{◌≡◌, ◌≢◌, ◌<◌, ◌+◌, ◌*◌, ◌/◌, ◌%◌, ◌^◌, ℕ, max, zero, suc, Bool, true, false, eqb, eq-eqb, ne_eqb, refl, sym, ap, subst, arith, ◌∙◌}
use Rattle.std.specs.Prelude.{if◌then◌else◌, bit_and, bit_or, not, ◌||◌, ◌&&◌}
use Rattle.std.specs.Int.{bit_at, bit_not, w64}
use Rattle.std.proofs.lemmas.Nat.{and_le_l, or_lt, pow_pos, one_shl}
use Rattle.std.proofs.lemmas.Nat.Bits.{and_pow, bit_at_clear_same, bit_at_clear_other, bit_at_or, bit_at-lt}
use mathlib.Core.Logic.{dite}
use native.Mathlib.Decide.{ℕ_discrete}
use Rattle.deltas.specs.Memory.{replaced_at}
use Rattle.tree_limits.specs.Words.{is_among}
use Rattle.traces.specs.trace.Steps.{IsWordOf}
use Rattle.deltas.proofs.Replaced.{replaced_other}

by_bit : (b : ℕ) → b < 2 → (P : ℕ → Type 0) → P 0 → P 1 → P b
by_bit zero below P none some = none
by_bit (suc zero) below P none some = some
by_bit (suc (suc b)) below P none some = absurd (omega arith)

module _ (free : ℕ → Bool) (word bits : ℕ) (is : IsWordOf free word bits) where
  -- the test of one bit
  bit_is_free : (i : ℕ) → i < 64 → not (eqb (bit_and bits (2 ^ i)) 0) ≡ free (64 * word + i)
  bit_is_free i below = go (free (64 * word + i)) (is.says i below)
    where
      go : (f : Bool) → bit_at bits i ≡ (if f then 1 else 0) → not (eqb (bit_and bits (2 ^ i)) 0) ≡ f
      go true says =
          let some : 0 < 2 ^ i = pow_pos i in
          let masked : bit_and bits (2 ^ i) ≡ 2 ^ i = and_pow bits i ∙ ap (λ b. b * 2 ^ i) says ∙ omega arith in
          let apart : bit_and bits (2 ^ i) ≢ 0 = λ none. absurd (omega arith) in
          ap not (ne_eqb (bit_and bits (2 ^ i)) 0 apart)
      go false says =
          let masked : bit_and bits (2 ^ i) ≡ 0 = and_pow bits i ∙ ap (λ b. b * 2 ^ i) says ∙ omega arith in
          ap not (eq-eqb (bit_and bits (2 ^ i)) 0 masked)

  -- one bit cleared
  bit_cleared : (i : ℕ) → i < 64 → IsWordOf (replaced_at (64 * word + i) false free) word (bit_and bits (bit_not w64 (2 ^ i)))
  bit_cleared i below = record {
    fits = let fits : bits < 2 ^ 64 = is.fits in omega (arith, and_le_l bits (bit_not w64 (2 ^ i)));
    says = λ j within. dite (ℕ_discrete j i)
        (λ same. rw (same, eq-eqb (64 * word + i) (64 * word + i) refl) (rw (one_shl i 64 below) at (bit_at_clear_same w64 bits i below)))
        (λ other. rw (one_shl i 64 below) at (bit_at_clear_other w64 bits i below j within other ∙ is.says j within
        ∙ ap (λ (f : Bool). if f then 1 else 0) (sym (replaced_other (64 * word + i) false free (64 * word + j) (λ same. other (omega arith))))));
  }

  -- a number of another word is taken
  pub word_kept : (n : ℕ) → word ≢ n / 64 → IsWordOf (replaced_at n false free) word bits
  word_kept n other = record {
    fits = is.fits;
    says = λ j within. is.says j within ∙ ap (λ (f : Bool). if f then 1 else 0) (sym (replaced_other n false free (64 * word + j) (λ same. other (omega arith))));
  }

  -- further bits are set
  pub bits_set : (more : ℕ) → more < 2 ^ 64 → IsWordOf (λ n. free n || is_among word more n) word (bit_or bits more)
  bits_set more fits = record {
    fits = or_lt 64 bits more is.fits fits;
    says = λ i within.
        let at : (64 * word + i) / 64 ≡ word = omega arith in
        let place : (64 * word + i) % 64 ≡ i = omega arith in
        rw (at, place, eq-eqb word word refl) (bit_at_or bits more i ∙ go (free (64 * word + i)) (bit_at bits i) (bit_at more i) (is.says i within) (bit_at-lt more i));
  }
    where
      go : (f : Bool) (old new : ℕ) → old ≡ (if f then 1 else 0) → new < 2 → max old new ≡ (if f || (true && eqb new 1) then 1 else 0)
      go true old new is few = by_bit new few (λ b. max old b ≡ 1) (omega arith) (omega arith)
      go false old new is few = by_bit new few (λ b. max old b ≡ (if eqb b 1 then 1 else 0)) (omega arith) (omega arith)

  -- bits of another word are set
  pub word_apart : (other more : ℕ) → word ≢ other → IsWordOf (λ n. free n || is_among other more n) word bits
  word_apart other more apart = record {
    fits = is.fits;
    says = λ i within.
        let at : (64 * word + i) / 64 ≡ word = omega arith in
        rw (at, ne_eqb word other apart) (is.says i within ∙ ap (λ (f : Bool). if f then 1 else 0) (sym (or_false (free (64 * word + i)))));
  }
    where
      or_false : (f : Bool) → (f || false) ≡ f
      or_false true = refl
      or_false false = refl

-- a number is taken, or found free, in its word
module _ (free : ℕ → Bool) (n bits : ℕ) (is : IsWordOf free (n / 64) bits) where
  whole : 64 * (n / 64) + n % 64 ≡ n
  whole = omega arith

  pub taken : IsWordOf (replaced_at n false free) (n / 64) (bit_and bits (bit_not w64 (2 ^ (n % 64))))
  taken = rw whole at (bit_cleared free (n / 64) bits is (n % 64) (omega arith))

  pub found_free : not (eqb (bit_and bits (2 ^ (n % 64))) 0) ≡ free n
  found_free = bit_is_free free (n / 64) bits is (n % 64) (omega arith) ∙ ap free whole
