-- Where things have numbers, and different ones different numbers, a list of different things has as many numbers.
use Rattle.progress.proofs.Words.{◌≡◌, ◌⊎◌, ℕ, suc, List, [], ◌∷◌, length, refl, ap, ◌∙◌, inl, inr, All-head, All-tail, All}
use Rattle.progress.proofs.Counted.{AreDistinct, Each, IsNotAmong}

abbrev pub IsIn : ℕ → List ℕ → Type 0
IsIn d [] = ⊥
IsIn d (c ∷ cs) = (d ≡ c) ⊎ IsIn d cs

apart_from : (c d : ℕ) (cs : List ℕ) → IsNotAmong c cs → IsIn d cs → c ≡ d → ⊥
apart_from c d [] other within same = absurd within
apart_from c d (e ∷ es) other (inl here) same = other.0 (same ∙ here)
apart_from c d (e ∷ es) other (inr there) same = apart_from c d es other.1 there same

module _ (HasNumber : ℕ → ℕ → Type 0) where
  -- different numbers, each that of one in the list
  pub record Numbered (cs : List ℕ) : Type 0 where
    pub numbers : List ℕ
    pub as_many : length numbers ≡ length cs
    pub distinct : AreDistinct numbers
    pub each : Each (λ j. (d : ℕ) × IsIn d cs × HasNumber j d) numbers

  more : (c : ℕ) (cs js : List ℕ) → Each (λ j. (d : ℕ) × IsIn d cs × HasNumber j d) js → Each (λ j. (d : ℕ) × IsIn d (c ∷ cs) × HasNumber j d) js
  more c cs [] each = tt
  more c cs (j ∷ js) each = ((each.0.0, inr each.0.1, each.0.2), more c cs js each.1)

  module _ (same_number : (j c d : ℕ) → HasNumber j c → HasNumber j d → c ≡ d) (P : ℕ → Type 0) (number_of : (c : ℕ) → P c → (j : ℕ) × HasNumber j c) where
    fresh : (c j : ℕ) (cs js : List ℕ) → IsNotAmong c cs → HasNumber j c → Each (λ i. (d : ℕ) × IsIn d cs × HasNumber i d) js → IsNotAmong j js
    fresh c j cs [] other has each = tt
    fresh c j cs (i ∷ is) other has each = (
      λ same. apart_from c each.0.0 cs other each.0.1 (same_number j c each.0.0 has (rw same each.0.2)),
      fresh c j cs is other has each.1,
    )

    pub numbered : (cs : List ℕ) → AreDistinct cs → All P cs → Numbered cs
    numbered [] once all = record { numbers = []; as_many = refl; distinct = tt; each = tt }
    numbered (c ∷ cs) once all =
        let rest = numbered cs once.1 (All-tail P c cs all) in
        let has = number_of c (All-head P c cs all) in
        record {
          numbers = has.0 ∷ rest.numbers;
          as_many = ap suc rest.as_many;
          distinct = (fresh c has.0 cs rest.numbers once.0 has.1 rest.each, rest.distinct);
          each = ((c, inl refl, has.1), more c cs rest.numbers rest.each);
        }
