-- The stages of the numbers in a limbo list.
use Rattle.sweep.proofs.Words.{◌≡◌, ◌/◌, ◌≢◌, ℕ, zero, suc, List, [], ◌∷◌, Option, Some, None, Bool, true, false, eqb, refl, ap, inl, inr, ◌&&◌, ◌||◌, if◌then◌else◌, list_any, cases_eq, eq-eqb}
use Rattle.sweep.proofs.Words.{eqb-true, or_right, or_cases, and_parts, Entry, Stage, Unstamped, Stamped, Passed, Limbo, first_restaged, is_passed, with_stages, stage_in, may_go, without}
use Rattle.std.proofs.Common.{◌⊎◌, not}
use Rattle.std.proofs.lemmas.Bool.{ne_eqb}
use Rattle.sweep.specs.Moves.{IsEmpty}

-- what becomes of a stage, if there is one
abbrev pub after : (Stage → Stage) → Option Stage → Option Stage
after f None = None
after f (Some stage) = Some (f stage)

pub restaged_stage : (f : Stage → Stage) (entries : List Entry) (n : ℕ) → stage_in (with_stages f entries) n ≡ after f (stage_in entries n)
restaged_stage f [] n = refl
restaged_stage f (e ∷ es) n = elim (eqb e.number n) as (λ b. (if b then Some (f e.stage) else stage_in (with_stages f es) n) ≡ after f (if b then Some e.stage else stage_in es n)) [
  | true ↦ refl
  | false ↦ restaged_stage f es n
]

-- the same of the first entries alone: the stage of a number changes, or stays
pub first_stage : (f : Stage → Stage) (most : ℕ) (entries : List Entry) (n : ℕ)
    → (stage_in (first_restaged most f entries) n ≡ after f (stage_in entries n)) ⊎ (stage_in (first_restaged most f entries) n ≡ stage_in entries n)
first_stage f zero entries n = inr refl
first_stage f (suc most) [] n = inr refl
first_stage f (suc most) (e ∷ es) n = elim (cases_eq e.number n) [
  | inl same ↦ inl (rw (eq-eqb e.number n same) refl)
  | inr other ↦ rw (ne_eqb e.number n other) (first_stage f most es n)
]

-- a number that isn't in the list has no stage
pub no_stage : (entries : List Entry) (n : ℕ) → list_any (λ (entry : Entry). eqb entry.number n) entries ≡ false → stage_in entries n ≡ None
no_stage [] n out = refl
no_stage (e ∷ es) n out = elim (eqb e.number n) as (λ b. (b || list_any (λ (entry : Entry). eqb entry.number n) es) ≡ false → (if b then Some e.stage else stage_in es n) ≡ None) [
  | true ↦ λ h. cc
  | false ↦ λ h. no_stage es n h
] out

first_bool : (a p m : Bool) → (a && (p || m)) ≡ false → not (a && p) ≡ true
first_bool true true m e = cc
first_bool true false m e = refl
first_bool false p m e = refl

not_both : (a p : Bool) → p ≡ false → not (a && p) ≡ true
not_both true p e = rw e refl
not_both false p e = refl

-- an entry of the number stays where the number may not go
same_stays : (e : Entry) (es : List Entry) (word n : ℕ) → e.number ≡ n → (eqb (n / 64) word && may_go (e ∷ es) n) ≡ false → not (eqb (e.number / 64) word && is_passed e.stage) ≡ true
same_stays e es word n same free =
    let h : (eqb (n / 64) word && (is_passed e.stage || may_go es n)) ≡ false = rw (eq-eqb e.number n same) at free in
    rw same (first_bool (eqb (n / 64) word) (is_passed e.stage) (may_go es n) h)

other_free : (e : Entry) (es : List Entry) (word n : ℕ) → e.number ≢ n → (eqb (n / 64) word && may_go (e ∷ es) n) ≡ false → (eqb (n / 64) word && may_go es n) ≡ false
other_free e es word n other free = rw (ne_eqb e.number n other) at free

-- what isn't taken out keeps its stage
pub kept_stage : (entries : List Entry) (word n : ℕ) → (eqb (n / 64) word && may_go entries n) ≡ false → stage_in (without word entries) n ≡ stage_in entries n
kept_stage [] word n free = refl
kept_stage (e ∷ es) word n free = elim (cases_eq e.number n) [
  | inl same ↦ rw (same_stays e es word n same free, eq-eqb e.number n same) refl
  | inr other ↦
      let rest : stage_in (without word es) n ≡ stage_in es n = kept_stage es word n (other_free e es word n other free) in
      let apart : eqb e.number n ≡ false = ne_eqb e.number n other in
      elim (not (eqb (e.number / 64) word && is_passed e.stage)) as (λ b. stage_in (if b then e ∷ without word es else without word es) n ≡ stage_in (e ∷ es) n) [
        | true ↦ rw apart rest
        | false ↦ rw apart rest
      ]
]

-- what is taken out had passed
pub passed_stage : (entries : List Entry) (word n : ℕ) → list_any (λ (entry : Entry). eqb entry.number n) (without word entries) ≡ false
    → may_go entries n ≡ true → (stamp : ℕ) × (stage_in entries n ≡ Some (Passed stamp))
passed_stage [] word n gone may = cc
passed_stage (e ∷ es) word n gone may = elim (cases_eq e.number n) [
  | inl same ↦ rw (eq-eqb e.number n same) (at_first e.stage refl (eq-eqb e.number n same))
  | inr other ↦
      let apart : eqb e.number n ≡ false = ne_eqb e.number n other in
      let rest_may : may_go es n ≡ true = rw apart at may in
      let rest_gone : list_any (λ (entry : Entry). eqb entry.number n) (without word es) ≡ false = elim (not (eqb (e.number / 64) word && is_passed e.stage)) as
      (λ b. list_any (λ (entry : Entry). eqb entry.number n) (if b then e ∷ without word es else without word es) ≡ false → list_any
      (λ (entry : Entry). eqb entry.number n) (without word es) ≡ false) [
        | true ↦ λ h. rw apart at h
        | false ↦ λ h. h
      ] gone in
      rw apart (passed_stage es word n rest_gone rest_may)
]
  where
    there : (not (eqb (e.number / 64) word && is_passed e.stage)) ≡ true → eqb e.number n ≡ true → ⊥
    there kept same = let h : list_any (λ (entry : Entry). eqb entry.number n) (e ∷ without word es) ≡ false = rw kept at gone in let k : true ≡ false = rw same at h in cc

    at_first : (stage : Stage) → e.stage ≡ stage → eqb e.number n ≡ true → (stamp : ℕ) × (Some stage ≡ Some (Passed stamp))
    at_first (Passed stamp) is same = (stamp, refl)
    at_first Unstamped is same = absurd (there (not_both (eqb (e.number / 64) word) (is_passed e.stage) (ap is_passed is)) same)
    at_first (Stamped stamp) is same = absurd (there (not_both (eqb (e.number / 64) word) (is_passed e.stage) (ap is_passed is)) same)

away : (a p : Bool) → p ≡ true → not (a && p) ≡ true → a ≡ false
away false p passed kept = refl
away true p passed kept = (let h : not p ≡ true = kept in let k : not true ≡ true = rw passed at h in cc)

-- what may go still is of another word, and might go before
pub left_later : (entries : List Entry) (word n : ℕ) → may_go (without word entries) n ≡ true → (may_go entries n ≡ true) × (eqb (n / 64) word ≡ false)
left_later [] word n may = cc
left_later (e ∷ es) word n may =
    elim (not (eqb (e.number / 64) word && is_passed e.stage)) as
    (λ b. not (eqb (e.number / 64) word && is_passed e.stage) ≡ b → may_go (if b then e ∷ without word es else without word es) n ≡ true → (may_go (e ∷ es) n ≡ true) × (eqb (n / 64) word ≡ false)) [
      | false ↦ λ kept h. later (left_later es word n h)
      | true ↦ λ kept h. elim (or_cases (eqb e.number n && is_passed e.stage) (may_go (without word es) n) h) [
        | inl here ↦ now kept (and_parts (eqb e.number n) (is_passed e.stage) here)
        | inr rest ↦ later (left_later es word n rest)
      ]
    ] refl may
  where
    later : (may_go es n ≡ true) × (eqb (n / 64) word ≡ false) → (may_go (e ∷ es) n ≡ true) × (eqb (n / 64) word ≡ false)
    later (may, apart) = (or_right (eqb e.number n && is_passed e.stage) (may_go es n) may, apart)

    now : not (eqb (e.number / 64) word && is_passed e.stage) ≡ true → (eqb e.number n ≡ true) × (is_passed e.stage ≡ true) → (may_go (e ∷ es) n ≡ true) × (eqb (n / 64) word ≡ false)
    now kept (same, passed) =
        let is : e.number ≡ n = eqb-true e.number n same in
        (rw (same, passed) refl, rw is at (away (eqb (e.number / 64) word) (is_passed e.stage) passed kept))

-- whether a limbo is empty
pub no_item : (limbo : Limbo) → IsEmpty limbo ⊎ (IsEmpty limbo → ⊥)
no_item limbo = both limbo.rows.entries limbo.pids.entries
  where
    both : (rows pids : List Entry) → ((rows ≡ []) × (pids ≡ [])) ⊎ ((rows ≡ []) × (pids ≡ []) → ⊥)
    both [] [] = inl (refl, refl)
    both [] (e ∷ es) = inr (λ h. cc (h.1))
    both (e ∷ es) pids = inr (λ h. cc (h.0))
