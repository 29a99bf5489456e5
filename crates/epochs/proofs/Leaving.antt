-- What was handed on is no more in the list.
use Rattle.std.proofs.Common.{◌≡◌, ◌<◌, ◌≤◌, ◌/◌, ◌⊎◌, ℕ, List, length, get_or, Bool, true, false, not, eqb, refl, sym, ap, ◌∙◌, arith, rules, inl, inr, IsTrue, IsFalse}
use Rattle.std.specs.Prelude.{◌&&◌}
use Rattle.std.specs.List.{All, filter}
use Rattle.std.proofs.lemmas.Bool.{cases_lt, eqb-true}
use Rattle.std.proofs.lemmas.Bool.Decides.{eqb_tells}
use Rattle.std.proofs.lemmas.List.{get_or_default}
use Rattle.std.proofs.lemmas.List.Elements.{All-filter, filter_passes}
use Rattle.std.proofs.lemmas.List.Folds.{Any-from_list_any, list_any_none}
use Rattle.epochs.specs.declared.entry.Entry.{Entry}
use Rattle.epochs.specs.Limbo.{IsLimboList, LimboList, is_in, is_passed}
use Rattle.tree_limits.specs.Words.{is_among}
use Rattle.epochs.specs.Words.{AreBitsOf, HandsOn, IsFirstWord, may_go, without}
use Rattle.epochs.proofs.Handing.{both, second}

-- The entry has this number, so it may be freed.
abbrev MayGoAs : ℕ → Entry → Type 0
MayGoAs n entry = eqb entry.number n ≡ true → is_passed entry.stage ≡ true

-- Where a number may be freed, each entry of that number may.
all_may_go : (list : LimboList) → IsLimboList list → (n : ℕ) → may_go list.entries n ≡ true → All (MayGoAs n) list.entries
all_may_go list is n there i d lt same = here (cases_lt i found.0) (cases_lt found.0 i)
  where
    entries : List Entry
    entries = list.entries

    found : (k : ℕ) × (x : Entry) × (k < length list.entries) × (get_or list.entries k x ≡ x) × ((eqb x.number n && is_passed x.stage) ≡ true)
    found = Any-from_list_any (λ (entry : Entry). eqb entry.number n && is_passed entry.stage) list.entries there

    numbered : (get_or list.entries found.0 d).number ≡ n
    numbered =
        ap (λ (entry : Entry). entry.number) (get_or_default list.entries found.0 d found.1 found.2 ∙ found.3)
        ∙ eqb-true found.1.number n (both (eqb found.1.number n) (is_passed found.1.stage) found.4)

    passed : is_passed (get_or list.entries found.0 d).stage ≡ true
    passed = ap (λ (entry : Entry). is_passed entry.stage) (get_or_default list.entries found.0 d found.1 found.2 ∙ found.3) ∙ second (eqb found.1.number n) (is_passed found.1.stage) found.4

    own : (get_or list.entries i d).number ≡ n
    own = eqb-true (get_or list.entries i d).number n same

    here : (i < found.0) ⊎ (found.0 ≤ i) → (found.0 < i) ⊎ (i ≤ found.0) → is_passed (get_or list.entries i d).stage ≡ true
    here (inl before) which = absurd (is.once i found.0 d before found.2 (own ∙ sym numbered))
    here (inr after) (inl later) = absurd (is.once found.0 i d later lt (numbered ∙ sym own))
    here (inr after) (inr before) = let at : i ≡ found.0 = omega (arith, after, before) in rw at passed

pub gone : (list : LimboList) → IsLimboList list → (word bits : ℕ) → AreBitsOf list.entries word bits → (n : ℕ) → IsTrue (is_among word bits n)
    → IsFalse (is_in (record list { entries = without word list.entries }) n)
gone list is word bits exact n among = list_any_none (λ (entry : Entry). eqb entry.number n) (filter kept list.entries) none
  where
    kept : Entry → Bool
    kept entry = not (eqb (entry.number / 64) word && is_passed entry.stage)

    there : (eqb (n / 64) word && may_go list.entries n) ≡ true
    there = sym (exact n) ∙ among

    place : eqb (n / 64) word ≡ true
    place = both (eqb (n / 64) word) (may_go list.entries n) there

    passes : All (MayGoAs n) (filter kept list.entries)
    passes = All-filter kept (MayGoAs n) list.entries (all_may_go list is n (second (eqb (n / 64) word) (may_go list.entries n) there))

    differ : false ≡ true → ⊥
    differ e = search rules

    none : All (λ (entry : Entry). eqb entry.number n ≡ false) (filter kept list.entries)
    none i d lt = elim (eqb_tells (get_or (filter kept list.entries) i d).number n) [
      | inr other ↦ other.0
      | inl same ↦ absurd (differ (rw (same.1, place, passes i d lt same.0) at (filter_passes kept list.entries i d lt)))
    ]

pub hands_on : (list : LimboList) → IsLimboList list → (word bits : ℕ) → IsFirstWord list.entries word → AreBitsOf list.entries word bits
    → HandsOn list word bits (record list { entries = without word list.entries })
hands_on list is word bits first exact = record {
  first = first;
  exact = exact;
  gone = gone list is word bits exact;
  rest = refl;
}
