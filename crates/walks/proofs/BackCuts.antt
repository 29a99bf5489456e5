-- Where the range of a page backward begins, and its pairs cut off at a lowest key.
use Rattle.walks.proofs.Words.{AllByRecursion, AreKeyPairs, ArePairsOf, Bool, IsShort, Less, List, None, Option, PairsAscend, Some, after_is_above, and_both}
use Rattle.walks.proofs.Words.{and_left, and_right, ap, arith, begin_above, below-trans, below_from, below_reach, cond, drop, either, false, is_below, is_lt}
use Rattle.walks.proofs.Words.{itself, key_after, key_before, key_cmp, not, not_true, pairs_from, place_from, prefix_len, refl, subst, suc, sym, true, ℕ, []}
use Rattle.walks.proofs.Words.{◌+◌, ◌∙◌, ◌∷◌, ◌≡◌}
use Rattle.std.specs.Prelude.{IfSome}
use Rattle.std.specs.List.Sorted.{IsStrictlySortedBy}
use Rattle.std.proofs.lemmas.List.Kept.{IsStrictlySortedBy-filter}
use Rattle.bw_model.proofs.NextKeyLaws.{before_is_greatest, before_is_key, none_is_first}
use Rattle.walks.proofs.Cuts.{Pair, keys, keys_kept, kept_passes, kept_still, kept_was}

pub below_trans : (a b c : List ℕ) → is_below a b ≡ true → is_below b c ≡ true → is_below a c ≡ true
below_trans a b c h k = ap is_lt (below-trans a b c (below_from a b h) (below_from b c k))

-- a key below another is below each key at or above that one
pub below_all : (a b c : List ℕ) → is_below a b ≡ true → is_below c b ≡ false → is_below a c ≡ true
below_all a b c h k = ap is_lt (below_reach a b c (below_from a b h) k)

-- what is below a key isn't above it
pub below_not : (a b : List ℕ) → is_below a b ≡ true → is_below b a ≡ false
below_not a b h = either (is_below b a) (λ back. let round : is_below a a ≡ true = below_trans a b a h back in let none : is_below a a ≡ false =
    ap is_lt (itself a) in absurd (cc)) (λ is. is)

pub upto_trans : (a b c : List ℕ) → is_below b a ≡ false → is_below c b ≡ false → is_below c a ≡ false
upto_trans a b c h k = either (is_below c a) (λ less. let through : is_below c b ≡ true = below_all c a b less h in absurd (cc)) (λ is. is)

pub not_false : (a : Bool) → not a ≡ false → a ≡ true
not_false true h = refl
not_false false h = cc

pub none_below : (key : List ℕ) → is_below key [] ≡ false
none_below [] = refl
none_below (x ∷ xs) = refl

-- the key before another one is below it
pub before_below : (from key : List ℕ) → IsShort from → key_before from ≡ Some key → is_below key from ≡ true
before_below from key short e = before_is_greatest from key short e key (before_is_key from key short e) ∙ ap not (ap is_lt (itself key))

module _ (low from key : List ℕ) (short : IsShort from) where
  -- what isn't below a page, nor below the lowest key, isn't below where the page's range begins
  begins_above : (below : Option (List ℕ)) → key_before from ≡ below → is_below key from ≡ false → is_below key low ≡ false
      → is_below key (begin_above low (place_from low below)) ≡ false
  begins_above None e out out_low = out_low
  begins_above (Some next) e out out_low = either (is_below next low)
      (λ under. rw under out_low)
      (λ over. rw over (after_is_above next key ∙ ap not (below_all next from key (before_below from next short e) out)))

  -- and the other way round, of a key
  both_begins : IsShort key → (below : Option (List ℕ)) → key_before from ≡ below → is_below key (begin_above low (place_from low below)) ≡ false
      → (is_below key from ≡ false) × (is_below key low ≡ false)
  both_begins short_key None e out = (rw (none_is_first from e) (none_below key), out)
  both_begins short_key (Some next) e out = either (is_below next low)
      (λ under.
      let out_low : is_below key low ≡ false = rw under at out in
      (before_is_greatest from next short e key short_key ∙ ap not (below_all next low key under out_low), out_low))
      (λ over.
      let past : is_below key (key_after next) ≡ false = rw over at out in
      let above : is_below next key ≡ true = not_false (is_below next key) (sym (after_is_above next key) ∙ past) in
      (before_is_greatest from next short e key short_key ∙ ap not above, upto_trans low next key over (below_not next key above)))

abbrev test : List ℕ → Pair → Bool
test low pair = not (is_below pair.0 low)

-- the pairs of a leaf up to a key, cut off
pub cut_from : (value_at : List ℕ → Option (List ℕ)) (low from upto : List ℕ) (pairs : List Pair) → IsShort from
    → ArePairsOf value_at from (Some (key_after upto)) pairs
    → AreKeyPairs value_at (begin_above low (place_from low (key_before from))) (Some (key_after upto)) (pairs_from low pairs)
cut_from value_at low from upto pairs short are = record {
  ascending = subst (IsStrictlySortedBy key_cmp) (sym (keys_kept (λ key. not (is_below key low)) pairs))
      (IsStrictlySortedBy-filter key_cmp (λ key. not (is_below key low)) (keys pairs) are.ascending);
  only = λ key value among.
      let (within, has) = (are.exact key value).0 (kept_was (test low) pairs (key, value) among) in
      let over : not (is_below key low) ≡ true = kept_passes (test low) pairs (key, value) among in
      let out : is_below key from ≡ false = not_true (is_below key from) (and_left (not (is_below key from)) (is_below key (key_after upto)) within) in
      let begun = begins_above low from key short (key_before from) refl out (not_true (is_below key low) over) in
      (and_both _ _ (ap not begun) (and_right (not (is_below key from)) (is_below key (key_after upto)) within), has);
  all = λ key value short_key within has.
      let begins = begin_above low (place_from low (key_before from)) in
      let out : is_below key begins ≡ false = not_true (is_below key begins) (and_left (not (is_below key begins)) (is_below key (key_after upto)) within) in
      let (over, over_low) = both_begins low from key short short_key (key_before from) refl out in
      kept_still (test low) pairs (key, value)
      ((are.exact key value).1 (and_both _ _ (ap not over) (and_right (not (is_below key begins)) (is_below key (key_after upto)) within), has))
      (ap not over_low);
}

-- the walk goes on below the key up to which the page went
pub goes_below : (low from upto : List ℕ) → IsShort from → is_below upto from ≡ false → (below : Option (List ℕ)) → key_before from ≡ below
    → IfSome (place_from low below) (λ next. is_below next upto ≡ true)
goes_below low from upto short reached None e = tt
goes_below low from upto short reached (Some next) e = either (is_below next low)
    (λ under. rw under tt)
    (λ over. rw over (below_all next from upto (before_below from next short e) reached))

-- pairs above one that isn't below the lowest key
all_over : (low key : List ℕ) (pairs : List Pair) → is_below key low ≡ false → AllByRecursion (λ other. key_cmp key other ≡ Less) (keys pairs)
    → pairs_from low pairs ≡ pairs
all_over low key [] out above = refl
all_over low key (pair ∷ pairs) out above =
    let passed : is_below pair.0 low ≡ false = upto_trans low key pair.0 out (below_not key pair.0 (ap is_lt above.0)) in
    ap (λ b. cond (not b) (pair ∷ pairs_from low pairs) (pairs_from low pairs)) passed ∙ ap (λ rest. pair ∷ rest) (all_over low key pairs out above.1)

abbrev below : List ℕ → Pair → Bool
below low pair = is_below pair.0 low

one_more : (n : ℕ) → 1 + n ≡ suc n
one_more n = omega arith

-- what stands from the first pair on that isn't below the lowest key are the pairs that aren't
pub rest_is : (low : List ℕ) (pairs : List Pair) → PairsAscend pairs → drop (prefix_len (below low) pairs) pairs ≡ pairs_from low pairs
unfolding IsStrictlySortedBy
rest_is low [] ascend = refl
rest_is low (pair ∷ pairs) ascend = either (is_below pair.0 low)
    (λ under. ap (λ b. drop (cond b (1 + prefix_len (below low) pairs) 0) (pair ∷ pairs)) under
    ∙ ap (λ n. drop n (pair ∷ pairs)) (one_more (prefix_len (below low) pairs))
    ∙ rest_is low pairs ascend.1 ∙ sym (ap (λ b. cond (not b) (pair ∷ pairs_from low pairs) (pairs_from low pairs)) under))
    (λ over. rw over (ap (λ rest. pair ∷ rest) (sym (all_over low pair.0 pairs over ascend.0))))
