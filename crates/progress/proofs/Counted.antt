-- Different places of a list at which a test passes are no more than it counts.
use Rattle.progress.proofs.Words.{◌≡◌, ◌≢◌, ◌≤◌, ◌⊎◌, ℕ, suc, List, [], ◌∷◌, cond, length, refl, sym, ap, inl, inr, arith, eqb_tells, ◌==◌, ⊤}

abbrev pub IsNotAmong : ℕ → List ℕ → Type 0
IsNotAmong j [] = ⊤
IsNotAmong j (k ∷ ks) = (j ≢ k) × IsNotAmong j ks

abbrev pub AreDistinct : List ℕ → Type 0
AreDistinct [] = ⊤
AreDistinct (k ∷ ks) = IsNotAmong k ks × AreDistinct ks

abbrev pub Each : (ℕ → Type 0) → List ℕ → Type 0
Each P [] = ⊤
Each P (k ∷ ks) = P k × Each P ks

-- the list with a number taken out where it first stands
abbrev pub without : ℕ → List ℕ → List ℕ
without n [] = []
without n (k ∷ ks) = cond (k == n) ks (k ∷ without n ks)

not_among_without : (j n : ℕ) (ks : List ℕ) → IsNotAmong j ks → IsNotAmong j (without n ks)
not_among_without j n [] h = tt
not_among_without j n (k ∷ ks) h = elim (eqb_tells k n) [ inl same ↦ rw same.0 h.1 | inr apart ↦ rw apart.0 (h.0, not_among_without j n ks h.1) ]

pub distinct_without : (n : ℕ) (ks : List ℕ) → AreDistinct ks → AreDistinct (without n ks)
distinct_without n [] h = tt
distinct_without n (k ∷ ks) h = elim (eqb_tells k n) [ inl same ↦ rw same.0 h.1 | inr apart ↦ rw apart.0 (not_among_without k n ks h.0, distinct_without n ks h.1) ]

one_less : (n : ℕ) (ks : List ℕ) → length ks ≤ suc (length (without n ks))
one_less n [] = omega arith
one_less n (k ∷ ks) = elim (eqb_tells k n) [ inl same ↦ rw same.0 (omega arith) | inr apart ↦ rw apart.0 (let h = one_less n ks in omega arith) ]

module _ (P : ℕ → Type 0) where
  -- what is so of all but the number is so of each without it, where it stands once
  pub each_without : (Q : ℕ → Type 0) (n : ℕ) (ks : List ℕ) → ((k : ℕ) → P k → k ≢ n → Q k) → AreDistinct ks → Each P ks → Each Q (without n ks)
  each_without Q n [] f distinct h = tt
  each_without Q n (k ∷ ks) f distinct h = elim (eqb_tells k n) [
    | inl same ↦ rw same.0 (rest ks (rw same.1 at distinct.0) h.1)
    | inr apart ↦ rw apart.0 (f k h.0 apart.1, each_without Q n ks f distinct.1 h.1)
  ]
    where
      rest : (ks : List ℕ) → IsNotAmong n ks → Each P ks → Each Q ks
      rest [] other each = tt
      rest (j ∷ js) other each = (f j each.0 (λ e. other.0 (sym e)), rest js other.1 each.1)

-- whether the number is among them
pub among : (n : ℕ) (P : ℕ → Type 0) (ks : List ℕ) → Each P ks → (P n × (length ks ≤ suc (length (without n ks)))) ⊎ ((length ks ≡ length (without n ks)))
among n P [] h = inr refl
among n P (k ∷ ks) h = elim (eqb_tells k n) [
  | inl same ↦ inl (rw same.1 at h.0, one_less n (k ∷ ks))
  | inr apart ↦ elim (among n P ks h.1) [
    | inl there ↦ inl (there.0, one_less n (k ∷ ks))
    | inr none ↦ inr (rw apart.0 (ap suc none))
  ]
]
