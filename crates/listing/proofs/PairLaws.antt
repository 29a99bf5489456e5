-- A sorted map that has what a log says has the log's pairs.
use Rattle.listing.proofs.Words.{◌≡◌, ◌<◌, ◌+◌, ℕ, suc, length, take, get_or, arith, List, true, false, None, Some, Option, [], ◌∷◌, ◌++◌, refl, ap, sym, ◌∙◌}
use Rattle.listing.proofs.Words.{IsTrue, key_cmp, is_in_range}
use Rattle.std.proofs.Common.{Bool, Less, Equal, Greater}
use Rattle.std.specs.Prelude.{if◌then◌else◌}
use Rattle.std.specs.BTreeMap.{BTreeMap, IsOrdered, get}
use Rattle.std.specs.Ordering.{is_eq, ordering_reverse}
use Rattle.std.specs.declared.cmp.Ordering.{Ordering}
use Rattle.std.proofs.Math.Seq.{take-suc}
use Rattle.std.proofs.lemmas.Cmp.{nat_list_cmp_total}
use Rattle.std.proofs.lemmas.Map.Lookups.{exact_bytes}
use Rattle.std.proofs.lemmas.Map.Views.{btree_map_get_iff}
use Rattle.bw_model.specs.Log.{Update, updated_key, updated_value, logged_value}
use Rattle.bw_model.proofs.LogLaws.{logged_value-push}
use Rattle.bw_model.specs.Pairs.{IsPairsOf}

pub equal_either_way : (a b : List ℕ) → is_eq (key_cmp a b) ≡ is_eq (key_cmp b a)
equal_either_way a b = ap is_eq (nat_list_cmp_total.antisymm a b) ∙ turned (key_cmp b a)
  where
    turned : (o : Ordering) → is_eq (ordering_reverse o) ≡ is_eq o
    turned Less = refl
    turned Equal = refl
    turned Greater = refl

pub pairs_of_map : (log : List Update) (low : List ℕ) (high : Option (List ℕ)) (values : BTreeMap (List ℕ) (List ℕ)) → IsOrdered key_cmp values
    → ((key : List ℕ) → get key_cmp values key ≡ (if is_in_range low high key then logged_value log key else None)) → IsPairsOf log low high values.entries
pairs_of_map log low high values ordered says = record {
  ascending = ordered;
  exact = λ key value. (
    (λ among. there key value (is_in_range low high key) refl ((btree_map_get_iff nat_list_cmp_total exact_bytes values ordered key value).1 among)),
    (λ (within, has). (btree_map_get_iff nat_list_cmp_total exact_bytes values ordered key value).0 (says key ∙ inside key value within has)),
  );
}
  where
    inside : (key value : List ℕ) → IsTrue (is_in_range low high key) → logged_value log key ≡ Some value → (if is_in_range low high key then logged_value log key else None) ≡ Some value
    inside key value within has = rw within has

    there : (key value : List ℕ) (within : Bool) → is_in_range low high key ≡ within → get key_cmp values key ≡ Some value → IsTrue (is_in_range low high key) × (logged_value log key ≡ Some value)
    there key value true is has = (is, (let same : get key_cmp values key ≡ logged_value log key = rw is at (says key) in sym same ∙ has))
    there key value false is has = let none : get key_cmp values key ≡ None = rw is at (says key) in cc

-- what the map has at each key after an update was taken into it
pub noted : (old new : BTreeMap (List ℕ) (List ℕ)) (update : Update) (at : List ℕ) (value : Option (List ℕ)) → at ≡ updated_key update → value ≡ updated_value update
    → ((key : List ℕ) → get key_cmp new key ≡ (if is_eq (key_cmp at key) then value else get key_cmp old key))
    → (key : List ℕ) → get key_cmp new key ≡ (if is_eq (key_cmp key (updated_key update)) then updated_value update else get key_cmp old key)
noted old new update at value same_key same_value says key = rw (equal_either_way key (updated_key update)) (rw (same_key, same_value) at (says key))

-- the map has what the log says of the keys of the range
abbrev pub Says : List Update → List ℕ → Option (List ℕ) → BTreeMap (List ℕ) (List ℕ) → Type 0
Says log low high values = (key : List ℕ) → get key_cmp values key ≡ (if is_in_range low high key then logged_value log key else None)

only_equal : (o : Ordering) → is_eq o ≡ true → o ≡ Equal
only_equal Less e = cc
only_equal Equal e = refl
only_equal Greater e = cc

pub equal_keys : (a b : List ℕ) → is_eq (key_cmp a b) ≡ true → a ≡ b
equal_keys a b e = exact_bytes a b (only_equal (key_cmp a b) e)

module _ (log : List Update) (update : Update) (low : List ℕ) (high : Option (List ℕ)) where
  -- an update of the range is taken in
  pub Says-inside : (old new : BTreeMap (List ℕ) (List ℕ)) → is_in_range low high (updated_key update) ≡ true → Says log low high old
      → ((key : List ℕ) → get key_cmp new key ≡ (if is_eq (key_cmp key (updated_key update)) then updated_value update else get key_cmp old key)) → Says (log ++ update ∷ []) low high new
  Says-inside old new within says noted key = by_cases (is_eq (key_cmp key (updated_key update))) refl
    where
      by_cases : (same : Bool) → is_eq (key_cmp key (updated_key update)) ≡ same → get key_cmp new key ≡ (if is_in_range low high key then logged_value (log ++ update ∷ []) key else None)
      by_cases true is = let here : is_in_range low high key ≡ true = rw (equal_keys key (updated_key update) is) within in rw (here, logged_value-push log update key, noted key, is) refl
      by_cases false is = rw (logged_value-push log update key, noted key, is) (says key)

  -- any other one says nothing of the range
  pub Says-outside : (values : BTreeMap (List ℕ) (List ℕ)) → is_in_range low high (updated_key update) ≡ false → Says log low high values → Says (log ++ update ∷ []) low high values
  Says-outside values within says key = by_cases (is_eq (key_cmp key (updated_key update))) refl
    where
      by_cases : (same : Bool) → is_eq (key_cmp key (updated_key update)) ≡ same → get key_cmp values key ≡ (if is_in_range low high key then logged_value (log ++ update ∷ []) key else None)
      by_cases true is = let here : is_in_range low high key ≡ false = rw (equal_keys key (updated_key update) is) within in
          let absent : get key_cmp values key ≡ None = rw here at (says key) in rw here absent
      by_cases false is = rw (logged_value-push log update key, is) (says key)

pub take-grown : {X : Type 0} (xs : List X) (i : ℕ) (x : X) → i < length xs → x ≡ get_or xs i x → take (i + 1) xs ≡ take i xs ++ x ∷ []
take-grown xs i x below is = let next : i + 1 ≡ suc i = omega arith in rw next (take-suc xs i x below ∙ ap (λ y. take i xs ++ y ∷ []) (sym is))
