-- Pairs whose keys ascend, and the log that sets them.
use Rattle.std.specs.Prelude.{IsTrue, slice_index_or, if◌then◌else◌, Option}
use Rattle.running_tree.proofs.Words.{AllByRecursion, Contains, fold, IsPairsOf, KeysAscend}
use Rattle.std.specs.List.Sorted.{IsStrictlySortedBy}
use Rattle.std.specs.declared.cmp.Ordering.{Ordering}
use Rattle.std.specs.Ordering.{is_eq, is_lt, ordering_reverse}
use mathlib.Core.Logic.{dite}
use native.Mathlib.Decide.{ℕ_discrete}
use Rattle.std.proofs.Common.{◌≡◌, ◌<◌, ◌≤◌, ◌+◌, ◌-◌, ◌++◌, ◌⊎◌, inl, inr, ℕ, zero, suc, List, [], ◌∷◌, length, map, refl, sym, ap, ◌∙◌, true, false, Bool, Some, None, arith, Less, Equal, Greater}
use Rattle.std.proofs.lemmas.Cmp.{nat_list_cmp_total}
use Rattle.bw_model.specs.Bytes.{key_cmp, is_in_range}
use Rattle.bw_model.specs.Log.{Update, set, updated_key, updated_value, logged_value}
use Rattle.listing.proofs.PairLaws.{equal_keys}

abbrev pub Pair : Type 0
Pair = List ℕ × List ℕ

-- so far each key is below the next one
abbrev pub Adjacent : List Pair → ℕ → Type 0
Adjacent pairs upto = (n : ℕ) (d : Pair) → suc n < upto → key_cmp (slice_index_or pairs n d).0 (slice_index_or pairs (suc n) d).0 ≡ Less

all_above : (low high : List ℕ) (keys : List (List ℕ)) → key_cmp low high ≡ Less → AllByRecursion (λ y. key_cmp high y ≡ Less) keys → AllByRecursion (λ y. key_cmp low y ≡ Less) keys
all_above low high [] less above = tt
all_above low high (k ∷ keys) less above = (nat_list_cmp_total.trans low high k less above.0, all_above low high keys less above.1)

pub ascending : (pairs : List Pair) → Adjacent pairs (length pairs) → KeysAscend pairs
unfolding IsStrictlySortedBy
ascending [] each = tt
ascending (p ∷ []) each = (tt, tt)
ascending (p ∷ q ∷ pairs) each =
    let rest : KeysAscend (q ∷ pairs) = ascending (q ∷ pairs) (λ n d below. each (suc n) d (omega (arith, below))) in
    let less : key_cmp p.0 q.0 ≡ Less = each 0 p (omega arith) in
    ((less, all_above p.0 q.0 (map (λ pair. pair.0) pairs) less rest.0), rest)

pub adjacent : (pairs : List Pair) → KeysAscend pairs → Adjacent pairs (length pairs)
unfolding IsStrictlySortedBy
adjacent [] each n d below = absurd (omega (arith, below))
adjacent (p ∷ []) each n d below = absurd (omega (arith, below))
adjacent (p ∷ q ∷ pairs) each zero d below = each.0.0
adjacent (p ∷ q ∷ pairs) each (suc n) d below = adjacent (q ∷ pairs) each.1 n d (omega (arith, below))

-- the updates that set the pairs
abbrev pub sets_of : List Pair → List Update
sets_of pairs = map (λ pair. set 0 pair.0 pair.1) pairs

abbrev value_from : Option (List ℕ) → List Update → List ℕ → Option (List ℕ)
value_from first log key = fold (λ before update. if is_eq (key_cmp key (updated_key update)) then updated_value update else before) first log

-- none of the keys is this one
abbrev AreOther : List ℕ → List Pair → Type 0
AreOther key pairs = AllByRecursion (λ k. is_eq (key_cmp key k) ≡ false) (map (λ pair. pair.0) pairs)

chooses_other : (b : Bool) (one other : Option (List ℕ)) → b ≡ false → (if b then one else other) ≡ other
chooses_other true one other e = cc
chooses_other false one other e = refl

chooses_one : (b : Bool) (one other : Option (List ℕ)) → b ≡ true → (if b then one else other) ≡ one
chooses_one true one other e = refl
chooses_one false one other e = cc

others_say : (pairs : List Pair) (first : Option (List ℕ)) (key : List ℕ) → AreOther key pairs → value_from first (sets_of pairs) key ≡ first
others_say [] first key all = refl
others_say (p ∷ pairs) first key all = ap (λ o. value_from o (sets_of pairs) key) (chooses_other (is_eq (key_cmp key p.0)) (Some p.1) first all.0) ∙ others_say pairs first key all.1

above_other : (key : List ℕ) (keys : List (List ℕ)) → AllByRecursion (λ y. key_cmp key y ≡ Less) keys → AllByRecursion (λ k. is_eq (key_cmp key k) ≡ false) keys
above_other key [] all = tt
above_other key (k ∷ keys) all = (ap is_eq all.0, above_other key keys all.1)

at_middle : (low : List ℕ) (done : List Pair) (p : Pair) (pairs : List Pair) → AllByRecursion (λ y. key_cmp low y ≡ Less) (map (λ pair. pair.0) (done ++ p ∷ pairs)) → key_cmp low p.0 ≡ Less
at_middle low [] p pairs all = all.0
at_middle low (d ∷ done) p pairs all = at_middle low done p pairs all.1

before_other : (done : List Pair) (p : Pair) (pairs : List Pair) → KeysAscend (done ++ p ∷ pairs) → AreOther p.0 done
unfolding IsStrictlySortedBy
before_other [] p pairs ascend = tt
before_other (d ∷ done) p pairs ascend = (ap is_eq (nat_list_cmp_total.antisymm p.0 d.0 ∙ ap ordering_reverse (at_middle d.0 done p pairs ascend.0)), before_other done p pairs ascend.1)

-- a key has no value before it is set
pub unset_before : (done : List Pair) (p : Pair) (pairs : List Pair) → KeysAscend (done ++ p ∷ pairs) → logged_value (sets_of done) p.0 ≡ None
unset_before done p pairs ascend = others_say done None p.0 (before_other done p pairs ascend)

own_reverse : (o : Ordering) → o ≡ ordering_reverse o → is_eq o ≡ true
own_reverse Less e = cc
own_reverse Equal e = refl
own_reverse Greater e = cc

equal_itself : (key : List ℕ) → is_eq (key_cmp key key) ≡ true
equal_itself key = own_reverse (key_cmp key key) (nat_list_cmp_total.antisymm key key)

has : (pairs : List Pair) (first : Option (List ℕ)) (key value : List ℕ) → KeysAscend pairs → Contains pairs (key, value) → value_from first (sets_of pairs) key ≡ Some value
unfolding IsStrictlySortedBy
has [] first key value ascend (k, below, e) = absurd (omega (arith, below))
has (p ∷ pairs) first key value ascend (zero, below, e) =
    let same : p.0 ≡ key = ap (λ (q : Pair). q.0) e in
    let held : p.1 ≡ value = ap (λ (q : Pair). q.1) e in
    let equal : is_eq (key_cmp key p.0) ≡ true = rw same (equal_itself key) in
    let others : AreOther key pairs = rw (← same) (above_other p.0 (map (λ pair. pair.0) pairs) ascend.0) in
    ap (λ o. value_from o (sets_of pairs) key) (chooses_one (is_eq (key_cmp key p.0)) (Some p.1) first equal) ∙ others_say pairs (Some p.1) key others ∙ ap Some held
has (p ∷ pairs) first key value ascend (suc k, below, e) = has pairs _ key value ascend.1 (k, omega (arith, below), e)

found : (pairs : List Pair) (first : Option (List ℕ)) (key value : List ℕ) → value_from first (sets_of pairs) key ≡ Some value → (first ≡ Some value) ⊎ Contains pairs (key, value)
found [] first key value e = inl e
found (p ∷ pairs) first key value e = elim (found pairs (if is_eq (key_cmp key p.0) then Some p.1 else first) key value e) [
  | inl this ↦ by_cases (is_eq (key_cmp key p.0)) refl this
  | inr later ↦ inr (suc later.0, (let below = later.1 in omega (arith, below)), later.2)
]
  where
    by_cases : (b : Bool) → is_eq (key_cmp key p.0) ≡ b → (if b then Some p.1 else first) ≡ Some value → (first ≡ Some value) ⊎ Contains (p ∷ pairs) (key, value)
    by_cases true is this =
        let same : key ≡ p.0 = equal_keys key p.0 is in
        let held : p.1 ≡ value = cc in
        inr (0, omega arith, ap (λ (k : List ℕ). (k, p.1)) (sym same) ∙ ap (λ (v : List ℕ). (key, v)) held)
    by_cases false is this = inl this

everywhere : (key : List ℕ) → IsTrue (is_in_range [] None key)
everywhere [] = refl
everywhere (x ∷ xs) = refl

not_none : {X : Type 0} (o : Option (List ℕ)) (value : List ℕ) → o ≡ None → (o ≡ Some value) ⊎ X → X
not_none o value none (inl is) = cc
not_none o value none (inr x) = x

-- the log that sets them has just these pairs
pub lists : (pairs : List Pair) → KeysAscend pairs → IsPairsOf (sets_of pairs) [] None pairs
lists pairs ascend = record {
  ascending = ascend;
  exact = λ key value. (
    (λ among. (everywhere key, has pairs None key value ascend among)),
    (λ (within, is). not_none None value refl (found pairs None key value is)),
  );
}

get_any : (pairs : List Pair) (n : ℕ) (d e : Pair) → n < length pairs → slice_index_or pairs n d ≡ slice_index_or pairs n e
get_any [] n d e below = absurd (omega (arith, below))
get_any (p ∷ pairs) zero d e below = refl
get_any (p ∷ pairs) (suc n) d e below = get_any pairs n d e (omega (arith, below))

less_of : (order : Ordering) → is_lt order ≡ true → order ≡ Less
less_of Less e = refl
less_of Equal e = cc
less_of Greater e = cc

not_less : (order : Ordering) → order ≡ Less → false ≡ is_lt order → ⊥
not_less Less e f = cc
not_less other e f = cc

-- a key was compared with the one before it
module _ (pairs : List Pair) (place : ℕ) (one two : Pair) (order : Ordering) (some : 1 ≤ place) (below : place < length pairs)
    (is : order ≡ key_cmp (slice_index_or pairs (place - 1) one).0 (slice_index_or pairs place two).0) where
  compared : (n : ℕ) (d : Pair) → suc n ≡ place → key_cmp (slice_index_or pairs n d).0 (slice_index_or pairs (suc n) d).0 ≡ order
  compared n d same =
      let before : n ≡ place - 1 = omega (arith, same) in
      let here : n < length pairs = omega (arith, same, below) in
      let there : suc n < length pairs = omega (arith, same, below) in
      ap (λ (p : Pair). key_cmp p.0 (slice_index_or pairs (suc n) d).0) (get_any pairs n d one here)
      ∙ ap (λ (p : Pair). key_cmp (slice_index_or pairs n one).0 p.0) (get_any pairs (suc n) d two there)
      ∙ ap (λ (k : ℕ). key_cmp (slice_index_or pairs k one).0 (slice_index_or pairs (suc n) two).0) before
      ∙ ap (λ (k : ℕ). key_cmp (slice_index_or pairs (place - 1) one).0 (slice_index_or pairs k two).0) same
      ∙ sym is

  pub adjacent_next : Adjacent pairs place → is_lt order ≡ true → Adjacent pairs (place + 1)
  adjacent_next so_far less n d few = dite (ℕ_discrete (suc n) place)
      (λ same. compared n d same ∙ less_of order less)
      (λ other. so_far n d (omega (arith, few, other)))

  pub not_ascending : false ≡ is_lt order → KeysAscend pairs → ⊥
  not_ascending other ascend =
      let here : suc (place - 1) ≡ place = omega (arith, some) in
      not_less order (sym (compared (place - 1) one here) ∙ adjacent pairs ascend (place - 1) one (omega (arith, here, below))) other
