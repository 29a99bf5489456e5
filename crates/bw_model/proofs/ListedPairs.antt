-- The pairs of a small log, worked out.
use Rattle.std.specs.Prelude.{codes, IsTrue, slice_index_or, if◌then◌else◌}
use Rattle.std.specs.List.{Contains}
use Rattle.std.specs.List.Sorted.{IsStrictlySortedBy}
use Rattle.std.specs.declared.cmp.Ordering.{Ordering}
use Rattle.std.specs.Ordering.{is_eq}
use Rattle.std.proofs.Common.{◌≡◌, ◌<◌, List, [], ◌∷◌, ℕ, zero, suc, refl, sym, ap, true, false, Bool, Some, None, arith, lit<, Less, Equal, Greater}
use Rattle.std.proofs.lemmas.Map.Lookups.{exact_bytes}
use Rattle.bw_model.specs.Pairs.{IsPairsOf}
use Rattle.bw_model.specs.Bytes.{key_cmp, is_in_range}
use Rattle.bw_model.specs.Log.{logged_value}
use Rattle.bw_model.specs.Examples.{small_log}

-- the list of the log's pairs in a range without a high key
pub listed : IsPairsOf small_log [] None ((codes "a", codes "3") ∷ [])
unfolding IsStrictlySortedBy
listed = record {
  ascending = (tt, tt);
  exact = λ key value. (
    (λ (k, within, is). (everywhere key, there key value (alone k within is))),
    (λ h. is_it key value h.1),
  );
}
  where
    everywhere : (key : List ℕ) → IsTrue (is_in_range [] None key)
    everywhere [] = refl
    everywhere (x ∷ xs) = refl

    alone : {key value : List ℕ} (k : ℕ) → k < 1 → ◌≡◌ {A = List ℕ × List ℕ} (slice_index_or ((codes "a", codes "3") ∷ []) k (key, value)) (key, value) → (key ≡ codes "a") × (value ≡ codes "3")
    alone zero h e = (sym (ap (λ p. p.0) e), sym (ap (λ p. p.1) e))
    alone (suc k) h e = absurd (omega arith)

    there : (key value : List ℕ) → (key ≡ codes "a") × (value ≡ codes "3") → logged_value small_log key ≡ Some value
    there key value (k, v) = rw (k, v) refl

    only_equal : (o : Ordering) → is_eq o ≡ true → o ≡ Equal
    only_equal Less e = cc
    only_equal Equal e = refl
    only_equal Greater e = cc

    equal_keys : (a b : List ℕ) → is_eq (key_cmp a b) ≡ true → a ≡ b
    equal_keys a b e = exact_bytes a b (only_equal (key_cmp a b) e)

    tells : (key value : List ℕ) (a b : Bool) → is_eq (key_cmp key (codes "a")) ≡ a
        → (if b then None else (if a then Some (codes "3") else (if b then Some (codes "2") else (if a then Some (codes "1") else None)))) ≡ Some value
        → (key ≡ codes "a") × (value ≡ codes "3")
    tells key value true true at e = cc
    tells key value true false at e = (equal_keys key (codes "a") at, cc)
    tells key value false true at e = cc
    tells key value false false at e = cc

    is_it : (key value : List ℕ) → logged_value small_log key ≡ Some value → Contains {X = List ℕ × List ℕ} ((codes "a", codes "3") ∷ []) (key, value)
    is_it key value e =
        let same : (key ≡ codes "a") × (value ≡ codes "3") = tells key value (is_eq (key_cmp key (codes "a"))) (is_eq (key_cmp key (codes "b"))) refl e in
        rw (same.0, same.1) (0, lit< tt, refl)
