-- The least key above a key splits the keys: those above the key are at or above it.
use Rattle.walks.proofs.Words.{AllByRecursion, IsShort, List, None, Option, Some, above_in, above_rest, ap, arith, either, false, is_below, is_lt, key_above}
use Rattle.walks.proofs.Words.{length, longest, lt-ltb, nat_lt, not, refl, suc, sym, true, zero, ℕ, [], ◌+◌, ◌-◌, ◌<◌, ◌∙◌, ◌∷◌, ◌≡◌, ◌≤◌}
use Rattle.std.specs.declared.cmp.Ordering.{Ordering}
use Rattle.std.specs.declared.cmp.Ordering.TheVariants.{Less, Equal, Greater}
use Rattle.std.specs.Ordering.{nat_cmp, ordering_then}
use Rattle.std.specs.Cmp.Lexicographic.{slice_cmp}
use Rattle.std.specs.Cmp.{nat_cmp_is, ranked}
use Rattle.bw_model.specs.NextKeys.{filled}
use Rattle.walks.specs.Neighbours.{IsSplitBy}
use Rattle.walks.proofs.BackCuts.{none_below}

by_nat : {G : Type 0} (x y : ℕ) → (x < y → G) → (x ≡ y → G) → (y < x → G) → G
by_nat {G} x y f g h = cases (nat_cmp x y) refl
  where
    cases : (o : Ordering) → o ≡ nat_cmp x y → G
    cases Less e = f (ranked x y Less e)
    cases Equal e = g (ranked x y Equal e)
    cases Greater e = h (ranked x y Greater e)

-- the first bytes decide, where they differ
first : (o : Ordering) (x y : ℕ) (xs ys : List ℕ) → o ≡ nat_cmp x y → is_below (x ∷ xs) (y ∷ ys) ≡ is_lt (ordering_then o (slice_cmp nat_cmp xs ys))
first o x y xs ys e = ap (λ (o : Ordering). is_lt (ordering_then o (slice_cmp nat_cmp xs ys))) (sym e)

first_below : (x y : ℕ) (xs ys : List ℕ) → x < y → is_below (x ∷ xs) (y ∷ ys) ≡ true
first_below x y xs ys h = first Less x y xs ys (nat_cmp_is x y Less h)

first_same : (x y : ℕ) (xs ys : List ℕ) → x ≡ y → is_below (x ∷ xs) (y ∷ ys) ≡ is_below xs ys
first_same x y xs ys h = first Equal x y xs ys (nat_cmp_is x y Equal h)

first_above : (x y : ℕ) (xs ys : List ℕ) → y < x → is_below (x ∷ xs) (y ∷ ys) ≡ false
first_above x y xs ys h = first Greater x y xs ys (nat_cmp_is x y Greater h)

module _ (byte other : ℕ) (rest others : List ℕ) where
  below_splits : other < byte → (found : Option (List ℕ)) → IsSplitBy (above_rest byte found) (byte ∷ rest) (other ∷ others)
  below_splits below (Some least) = first_above byte other rest others below ∙ sym (ap not (first_below other byte others least below))
  below_splits below None = either (nat_lt byte 255)
      (λ less. rw less (first_above byte other rest others below ∙ sym (ap not (first_below other (byte + 1) others [] (omega (arith, below))))))
      (λ most. rw most (first_above byte other rest others below))

  same_splits : other ≡ byte → (found : Option (List ℕ)) → IsSplitBy found rest others → IsSplitBy (above_rest byte found) (byte ∷ rest) (other ∷ others)
  same_splits same (Some least) is = first_same byte other rest others (sym same) ∙ is ∙ sym (ap not (first_same other byte others least same))
  same_splits same None is = either (nat_lt byte 255)
      (λ less. rw less (first_same byte other rest others (sym same) ∙ is ∙ sym (ap not (first_below other (byte + 1) others [] (omega (arith, same))))))
      (λ most. rw most (first_same byte other rest others (sym same) ∙ is))

  above_splits : byte < other → other < 256 → (found : Option (List ℕ)) → IsSplitBy (above_rest byte found) (byte ∷ rest) (other ∷ others)
  above_splits above fits (Some least) = first_below byte other rest others above ∙ sym (ap not (first_above other byte others least above))
  above_splits above fits None = either (nat_lt byte 255)
      (λ less. rw less (first_below byte other rest others above ∙ sym (ap not beyond)))
      (λ most. let less : nat_lt byte 255 ≡ true = lt-ltb byte 255 (omega (arith, above, fits)) in absurd (cc))
    where
      beyond : is_below (other ∷ others) ((byte + 1) ∷ []) ≡ false
      beyond = by_nat other (byte + 1)
          (λ under. absurd (omega (arith, under, above)))
          (λ next. first_same other (byte + 1) others [] next ∙ none_below others)
          (λ past. first_above other (byte + 1) others [] past)

splits : (room : ℕ) (key x : List ℕ) → length key ≤ room → length x ≤ room → AllByRecursion (λ byte. byte < 256) x → IsSplitBy (above_in room key) key x
splits room [] [] fits few all = either (nat_lt 0 room) (λ some. rw some refl) (λ none. rw none refl)
splits room [] (y ∷ ys) fits few all =
    let some : nat_lt 0 room ≡ true = lt-ltb 0 room (omega (arith, few)) in
    rw some (sym (ap not (by_nat y 0
    (λ below. absurd (omega (arith, below)))
    (λ same. first_same y 0 ys [] same ∙ none_below ys)
    (λ above. first_above y 0 ys [] above))))
splits room (byte ∷ rest) [] fits few all = nothing (above_in (room - 1) rest)
  where
    nothing : (found : Option (List ℕ)) → IsSplitBy (above_rest byte found) (byte ∷ rest) []
    nothing (Some least) = refl
    nothing None = either (nat_lt byte 255) (λ less. rw less refl) (λ most. rw most refl)
splits room (byte ∷ rest) (y ∷ ys) fits few all = by_nat y byte
    (λ below. below_splits byte y rest ys below (above_in (room - 1) rest))
    (λ same. same_splits byte y rest ys same (above_in (room - 1) rest) (splits (room - 1) rest ys (omega (arith, fits)) (omega (arith, few)) all.1))
    (λ above. above_splits byte y rest ys above all.0 (above_in (room - 1) rest))

pub least_above : (key x : List ℕ) → IsShort key → IsShort x → IsSplitBy (key_above key) key x
least_above key x short other = splits longest key x short.short other.short other.bytes_fit

-- no key is above so many times the greatest byte
none_above : (room : ℕ) (x : List ℕ) → length x ≤ room → AllByRecursion (λ byte. byte < 256) x → is_below (filled room) x ≡ false
none_above zero [] few all = refl
none_above zero (y ∷ ys) few all = absurd (omega (arith, few))
none_above (suc room) [] few all = refl
none_above (suc room) (y ∷ ys) few all = by_nat 255 y
    (λ below. absurd (omega (arith, below, all.0)))
    (λ same. first_same 255 y (filled room) ys same ∙ none_above room ys (omega (arith, few)) all.1)
    (λ above. first_above 255 y (filled room) ys above)

pub greatest_is : (x : List ℕ) → IsShort x → is_below (filled longest) x ≡ false
greatest_is x short = none_above longest x short.short short.bytes_fit
