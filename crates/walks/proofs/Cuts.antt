-- Pairs in the order of their keys, cut off at a bound.
use Rattle.walks.proofs.Words.{AllByRecursion, ArePairsOf, Bool, Contains, Contains-append_right, Less, List, None, Option, PairsAscend, Some, and_both}
use Rattle.walks.proofs.Words.{and_left, and_right, ap, arith, below-trans, below_from, below_reach, cond, either, end_under, false, is_below, is_lt, is_under}
use Rattle.walks.proofs.Words.{key_cmp, length, map, not, pairs_under, place_under, refl, subst, suc, sym, true, zero, ℕ, [], ◌∙◌, ◌∷◌, ◌≡◌}
use Rattle.std.specs.Prelude.{◌==◌, filter}
use Rattle.std.specs.List.{take_while}
use Rattle.std.specs.List.Sorted.{IsStrictlySortedBy}
use Rattle.std.proofs.lemmas.Bool.{eqb-true}
use Rattle.std.proofs.lemmas.List.Elements.{All-contains, All-contains_itself, All-filter, filter_passes}
use Rattle.std.proofs.lemmas.List.Kept.{IsStrictlySortedBy-filter}
use Rattle.std.proofs.lemmas.List.Sums.{take_while-cons}

abbrev pub Pair : Type 0
Pair = List ℕ × List ℕ

abbrev pub keys : List Pair → List (List ℕ)
keys pairs = map (λ (pair : Pair). pair.0) pairs

pub no_item : {X : Type 0} (xs : List X) → (length xs == 0) ≡ true → xs ≡ []
no_item [] is = refl
no_item (x ∷ xs) is = let e = eqb-true (length (x ∷ xs)) 0 is in absurd (omega (arith, e))

abbrev test : Option (List ℕ) → Pair → Bool
test bound pair = is_under pair.0 bound

-- a key above one that isn't below the bound isn't below it either
above_bound : (bound : Option (List ℕ)) (a b : List ℕ) → key_cmp a b ≡ Less → is_under a bound ≡ false → is_under b bound ≡ false
above_bound None a b less out = cc
above_bound (Some high) a b less out = either (is_below b high)
    (λ inn. let through : key_cmp a high ≡ Less = below-trans a b high less (below_from b high inn) in let below : is_below a high ≡ true = ap is_lt through in absurd (cc))
    (λ is. is)

none_above : (bound : Option (List ℕ)) (key : List ℕ) (pairs : List Pair) → is_under key bound ≡ false → AllByRecursion (λ other. key_cmp key other ≡ Less) (keys pairs) → pairs_under bound pairs ≡ []
none_above bound key [] out above = refl
none_above bound key (pair ∷ pairs) out above =
    let passed : is_under pair.0 bound ≡ false = above_bound bound key pair.0 above.0 out in
    ap (λ b. cond b (pair ∷ pairs_under bound pairs) (pairs_under bound pairs)) passed ∙ none_above bound key pairs out above.1

-- what stands before the first pair that isn't below the bound are the pairs below it
pub cut_is : (bound : Option (List ℕ)) (pairs : List Pair) → PairsAscend pairs → take_while (test bound) pairs ≡ pairs_under bound pairs
unfolding IsStrictlySortedBy
cut_is bound [] ascend = refl
cut_is bound (pair ∷ pairs) ascend = take_while-cons (test bound) pair pairs ∙ either (is_under pair.0 bound)
    (λ inn. ap (λ b. cond b (pair ∷ take_while (test bound) pairs) []) inn ∙ ap (λ rest. pair ∷ rest) (cut_is bound pairs ascend.1) ∙ sym
    (ap (λ b. cond b (pair ∷ pairs_under bound pairs) (pairs_under bound pairs)) inn))
    (λ out. ap (λ b. cond b (pair ∷ take_while (test bound) pairs) []) out ∙ sym (none_above bound pair.0 pairs out ascend.0) ∙ sym
    (ap (λ b. cond b (pair ∷ pairs_under bound pairs) (pairs_under bound pairs)) out))

-- what passes a test
module _ {X : Type 0} (p : X → Bool) where
  pub kept_was : (xs : List X) (x : X) → Contains (filter p xs) x → Contains xs x
  kept_was xs x among = All-contains (Contains xs) (filter p xs) x (All-filter p (Contains xs) xs (All-contains_itself xs)) among

  pub kept_passes : (xs : List X) (x : X) → Contains (filter p xs) x → p x ≡ true
  kept_passes xs x among = All-contains (λ y. p y ≡ true) (filter p xs) x (filter_passes p xs) among

  pub kept_still : (xs : List X) (x : X) → Contains xs x → p x ≡ true → Contains (filter p xs) x
  kept_still [] x (k, within, is) passes = absurd (omega arith)
  kept_still (y ∷ xs) x (zero, within, is) passes =
      let here : p y ≡ true = ap p is ∙ passes in
      rw (ap (λ b. cond b (y ∷ filter p xs) (filter p xs)) here) (zero, omega arith, is)
  kept_still (y ∷ xs) x (suc k, within, is) passes =
      let rest : Contains (filter p xs) x = kept_still xs x (k, omega arith, is) passes in either (p y)
      (λ inn. rw (ap (λ b. cond b (y ∷ filter p xs) (filter p xs)) inn) (Contains-append_right (y ∷ []) (filter p xs) x rest))
      (λ out. rw (ap (λ b. cond b (y ∷ filter p xs) (filter p xs)) out) rest)

pub keys_kept : (p : List ℕ → Bool) (pairs : List Pair) → keys (filter (λ (pair : Pair). p pair.0) pairs) ≡ filter p (keys pairs)
keys_kept p [] = refl
keys_kept p (pair ∷ pairs) = either (p pair.0)
    (λ inn. rw inn (ap (λ rest. pair.0 ∷ rest) (keys_kept p pairs)))
    (λ out. rw out (keys_kept p pairs))

-- a key is below both ends exactly if it is below the one that comes first
module _ (bound : Option (List ℕ)) (key : List ℕ) where
  first_end : (high : Option (List ℕ)) → is_under key high ≡ true → is_under key bound ≡ true → is_under key (end_under bound (place_under bound high)) ≡ true
  first_end None low up = up
  first_end (Some high) low up = either (is_under high bound) (λ inn. rw inn low) (λ out. rw out up)

  pub below_bound : (b : Option (List ℕ)) (high : List ℕ) → is_under high b ≡ true → is_below key high ≡ true → is_under key b ≡ true
  below_bound None high is low = refl
  below_bound (Some end) high is low = let through : key_cmp key end ≡ Less = below-trans key high end (below_from key high low) (below_from high end is) in ap is_lt through

  below_high : (b : Option (List ℕ)) (high : List ℕ) → is_under high b ≡ false → is_under key b ≡ true → is_below key high ≡ true
  below_high None high is up = cc
  below_high (Some end) high is up = ap is_lt (below_reach key end high (below_from key end up) is)

  pub both_ends : (high : Option (List ℕ)) → is_under key (end_under bound (place_under bound high)) ≡ true → (is_under key high ≡ true) × (is_under key bound ≡ true)
  both_ends None h = (refl, h)
  both_ends (Some high) h = either (is_under high bound)
      (λ inn. let low : is_below key high ≡ true = rw inn at h in (low, below_bound bound high inn low))
      (λ out. let up : is_under key bound ≡ true = rw out at h in (below_high bound high out up, up))

-- the pairs of a range, cut off
pub cut_pairs : (value_at : List ℕ → Option (List ℕ)) (from : List ℕ) (high bound : Option (List ℕ)) (pairs : List Pair) → ArePairsOf value_at from high pairs
    → ArePairsOf value_at from (end_under bound (place_under bound high)) (pairs_under bound pairs)
cut_pairs value_at from high bound pairs are = record {
  ascending = subst (IsStrictlySortedBy key_cmp) (sym (keys_kept (λ key. is_under key bound) pairs)) (IsStrictlySortedBy-filter key_cmp (λ key. is_under key bound) (keys pairs) are.ascending);
  exact = λ key value. (
    (λ among.
        let (within, has) = (are.exact key value).0 (kept_was (test bound) pairs (key, value) among) in
        let under : is_under key bound ≡ true = kept_passes (test bound) pairs (key, value) among in
        (and_both _ _ (and_left (not (is_below key from)) (is_under key high) within) (first_end bound key high (and_right (not (is_below key from)) (is_under key high) within) under), has)),
    (λ (within, has).
        let (low, up) = both_ends bound key high (and_right (not (is_below key from)) _ within) in
        kept_still (test bound) pairs (key, value) ((are.exact key value).1 (and_both _ _ (and_left (not (is_below key from)) _ within) low, has)) up),
  );
}
