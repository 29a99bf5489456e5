-- What a walk tells of the first pair that it shows.
use Rattle.walks.proofs.Words.{AllByRecursion, Bool, Contains, Contains-append_cases, Contains-append_right, Entry, Less, List, None, Option, PairsAscend, Some}
use Rattle.walks.proofs.Words.{TellMap, after_is_above, and_both, and_left, and_right, ap, arith, false, inl, inr, is_below, is_lt, is_under, key_after}
use Rattle.walks.proofs.Words.{key_cmp, not, not_true, refl, suc, sym, true, zero, ℕ, [], ◌++◌, ◌∙◌, ◌∷◌, ◌≡◌}
use Rattle.std.specs.List.Sorted.{IsStrictlySortedBy}
use Rattle.walks.specs.BackWalks.{TellKeys, TellNextBack}
use Rattle.walks.specs.Walks.{TellNext}
use Rattle.walks.proofs.BackCuts.{below_not, below_trans, not_false, upto_trans}
use Rattle.walks.proofs.Cuts.{Pair, keys}
use Rattle.walks.proofs.Walking.{none_in}

all_of : (P : List ℕ → Type 0) (pairs : List Pair) → AllByRecursion P (keys pairs) → (key value : List ℕ) → Contains pairs (key, value) → P key
all_of P [] all key value among = absurd (none_in (key, value) among)
all_of P (pair ∷ pairs) all key value (zero, within, is) = rw is at all.0
all_of P (pair ∷ pairs) all key value (suc n, within, is) = all_of P pairs all.1 key value (n, omega arith, is)

-- a key below itself
never : (key : List ℕ) → is_below key key ≡ true → ⊥
never key below = let over = below_not key key below in cc

-- a pair among others that its key is below
first_of : (key value : List ℕ) (pairs : List Pair) → PairsAscend ((key, value) ∷ pairs) → (other held : List ℕ)
    → Contains ((key, value) ∷ pairs) (other, held) → is_below other key ≡ true → ⊥
unfolding IsStrictlySortedBy
first_of key value pairs ascend other held among below = elim (Contains-append_cases ((key, value) ∷ []) pairs (other, held) among) [
  | inl here ↦ never other (rw (all_of (λ k. key ≡ k) ((key, value) ∷ []) (refl, tt) other held here) at below)
  | inr later ↦ never other (below_trans other key other below (ap is_lt (all_of (λ k. key_cmp key k ≡ Less) pairs ascend.0 other held later)))
]

last_of : (key value : List ℕ) (pairs : List Pair) → PairsAscend (pairs ++ (key, value) ∷ []) → (other held : List ℕ)
    → Contains (pairs ++ (key, value) ∷ []) (other, held)
    → is_below key other ≡ true → ⊥
unfolding IsStrictlySortedBy
last_of key value pairs ascend other held among above = elim (Contains-append_cases pairs ((key, value) ∷ []) (other, held) among) [
  | inl before ↦ never other (below_trans other key other (below_last pairs ascend before) above)
  | inr here ↦ never other (rw (all_of (λ k. key ≡ k) ((key, value) ∷ []) (refl, tt) other held here) at above)
]
  where
    below_last : (pairs : List Pair) → PairsAscend (pairs ++ (key, value) ∷ []) → Contains pairs (other, held) → is_below other key ≡ true
    below_last [] ascend among = absurd (none_in (other, held) among)
    below_last (pair ∷ pairs) ascend (zero, within, is) =
        rw is at (ap is_lt (all_of (λ k. key_cmp pair.0 k ≡ Less) (pairs ++ (key, value) ∷ []) ascend.0 key value
        (Contains-append_right pairs ((key, value) ∷ []) (key, value) (0, omega arith, refl))))
    below_last (pair ∷ pairs) ascend (suc n, within, is) = below_last pairs ascend.1 (n, omega arith, is)

module _ (run : List Entry) (points : List Bool) (since till : ℕ) where
  pub tells_next : (from : List ℕ) (end : Option (List ℕ)) (key value : List ℕ) (pairs : List Pair)
      → TellMap run points since till from end ((key, value) ∷ pairs)
      → TellNext run points since till from key value
  tells_next from end key value pairs tell = (
    tell.was key value here,
    λ other within there.
        let below : is_below other key ≡ true = and_right (not (is_below other from)) (is_below other key) within in
        let in' = and_both _ _ (and_left (not (is_below other from)) (is_below other key) within) (under end other below
        (and_right (not (is_below key from)) (is_under key end) (tell.within key value here))) in
        let shown = tell.there other in' there in first_of key value pairs tell.ascending other shown.0 shown.1 below,
  )
    where
      here : Contains ((key, value) ∷ pairs) (key, value)
      here = (0, omega arith, refl)

      under : (end : Option (List ℕ)) (other : List ℕ) → is_below other key ≡ true → is_under key end ≡ true → is_under other end ≡ true
      under None other below is = refl
      under (Some high) other below is = below_trans other key high below is

  pub tells_next_back : (from : List ℕ) (end : Option (List ℕ)) (key value : List ℕ) (pairs : List Pair)
      → TellKeys run points since till from end (pairs ++ (key, value) ∷ [])
      → TellNextBack run points since till end key value
  tells_next_back from end key value pairs tell = (
    tell.was key value here,
    λ other short within there.
        let past : is_below other (key_after key) ≡ false = not_true (is_below other (key_after key))
        (and_left (not (is_below other (key_after key))) (is_under other end) within) in
        let above : is_below key other ≡ true = not_false (is_below key other) (sym (after_is_above key other) ∙ past) in
        let over : is_below other from ≡ false = upto_trans from key other
        (not_true (is_below key from) (and_left (not (is_below key from)) (is_under key end) (tell.within key value here))) (below_not key other above) in
        let in' = and_both _ _ (ap not over) (and_right (not (is_below other (key_after key))) (is_under other end) within) in
        let shown = tell.there other short in' there in last_of key value pairs tell.ascending other shown.0 shown.1 above,
  )
    where
      here : Contains (pairs ++ (key, value) ∷ []) (key, value)
      here = Contains-append_right pairs ((key, value) ∷ []) (key, value) (0, omega arith, refl)
