-- What holds of each entry of a list that is written out, and of each number up to a bound.
use Rattle.linearization.proofs.Words.{◌≡◌, ◌<◌, ◌≤◌, ◌⊎◌, ℕ, zero, suc, List, [], ◌∷◌, Bool, true, false, ◌&&◌, Some, inl, inr, refl, ap, subst, arith, slice_get, map, if◌then◌else◌}
use Rattle.linearization.proofs.Words.{Operation}
use Rattle.std.proofs.Common.{eqb}
use Rattle.std.proofs.lemmas.Bool.{eqb-true, eqb-false}

abbrev pub EachAt : {X : Type 0} → (ℕ → X → Type 0) → List X → Type 0
EachAt P [] = Unit {0}
EachAt P (x ∷ xs) = P 0 x × EachAt (λ n. P (suc n)) xs

pub EachAt-get : {X : Type 0} (P : ℕ → X → Type 0) (xs : List X) → EachAt P xs → (n : ℕ) (x : X) → slice_get xs n ≡ Some x → P n x
EachAt-get P [] h n x e = cc
EachAt-get P (y ∷ xs) h zero x e = let same : y ≡ x = cc in subst (P 0) same h.0
EachAt-get P (y ∷ xs) h (suc n) x e = EachAt-get (λ k. P (suc k)) xs h.1 n x e

abbrev pub UpTo : (ℕ → Type 0) → ℕ → Type 0
UpTo P zero = P 0
UpTo P (suc n) = P 0 × UpTo (λ k. P (suc k)) n

pub UpTo-at : (P : ℕ → Type 0) (n : ℕ) → UpTo P n → (k : ℕ) → k ≤ n → P k
UpTo-at P zero h zero le = h
UpTo-at P zero h (suc k) le = absurd (omega arith)
UpTo-at P (suc n) h zero le = h.0
UpTo-at P (suc n) h (suc k) le = UpTo-at (λ j. P (suc j)) n h.1 k (omega arith)

-- whether the test passes at each number below n
abbrev pub all_below : (ℕ → Bool) → ℕ → Bool
all_below p zero = true
all_below p (suc n) = p n && all_below p n

pub and_left : (a b : Bool) → (a && b) ≡ true → a ≡ true
and_left true b e = refl
and_left false b e = cc

pub and_right : (a b : Bool) → (a && b) ≡ true → b ≡ true
and_right true b e = e
and_right false b e = cc

pub all_below-at : (p : ℕ → Bool) (n : ℕ) → all_below p n ≡ true → (k : ℕ) → k < n → p k ≡ true
all_below-at p zero e k h = absurd (omega arith)
all_below-at p (suc n) e k h = elim (eqb k n) as (λ b. eqb k n ≡ b → p k ≡ true) [
  | true ↦ λ is. let same : k ≡ n = eqb-true k n is in rw same (and_left (p n) (all_below p n) e)
  | false ↦ λ is. let other : k ≡ n → ⊥ = eqb-false k n is in all_below-at p n (and_right (p n) (all_below p n) e) k (omega arith)
] refl

pub same_operation : (a b : Operation) → a.start ≡ b.start → a.actor ≡ b.actor → a.command ≡ b.command → a ≡ b
same_operation a b s t c = λ i. record { start = s i; actor = t i; command = c i }

-- the places of a written list where the test passes
abbrev pub places_of : {X : Type 0} → (X → Bool) → List X → List ℕ
places_of p [] = []
places_of p (x ∷ xs) = if p x then 0 ∷ map suc (places_of p xs) else map suc (places_of p xs)

abbrev pub IsOneOf : List ℕ → ℕ → Type 0
IsOneOf [] n = ⊥
IsOneOf (k ∷ []) n = n ≡ k
IsOneOf (k ∷ l ∷ ks) n = (n ≡ k) ⊎ IsOneOf (l ∷ ks) n

one_more : (ks : List ℕ) (n : ℕ) → IsOneOf ks n → IsOneOf (map suc ks) (suc n)
one_more [] n h = absurd h
one_more (k ∷ []) n h = ap suc h
one_more (k ∷ l ∷ ks) n h = elim h [ inl is ↦ inl (ap suc is) | inr later ↦ inr (one_more (l ∷ ks) n later) ]

first_of : (ks : List ℕ) → IsOneOf (0 ∷ ks) 0
first_of [] = refl
first_of (k ∷ ks) = inl refl

later_of : (ks : List ℕ) (n : ℕ) → IsOneOf ks n → IsOneOf (0 ∷ ks) n
later_of [] n h = absurd h
later_of (k ∷ ks) n h = inr h

-- what passes stands at one of them
pub stands_at : {X : Type 0} (p : X → Bool) (xs : List X) (n : ℕ) (x : X) → slice_get xs n ≡ Some x → p x ≡ true → IsOneOf (places_of p xs) n
stands_at p [] n x e h = cc
stands_at p (y ∷ xs) zero x e h =
    let same : y ≡ x = cc in
    let passes : p y ≡ true = rw same h in
    rw passes (first_of (map suc (places_of p xs)))
stands_at p (y ∷ xs) (suc n) x e h = by_test (p y) (one_more (places_of p xs) n (stands_at p xs n x e h))
  where
    by_test : (b : Bool) → IsOneOf (map suc (places_of p xs)) (suc n) → IsOneOf (if b then 0 ∷ map suc (places_of p xs) else map suc (places_of p xs)) (suc n)
    by_test true a = later_of (map suc (places_of p xs)) (suc n) a
    by_test false a = a

-- whether all of a written list pass, each with its place
abbrev pub all_at : {X : Type 0} → (ℕ → X → Bool) → List X → Bool
all_at p [] = true
all_at p (x ∷ xs) = p 0 x && all_at (λ n. p (suc n)) xs

pub passes_at : {X : Type 0} (p : ℕ → X → Bool) (xs : List X) → all_at p xs ≡ true → (n : ℕ) (x : X) → slice_get xs n ≡ Some x → p n x ≡ true
passes_at p [] h n x e = cc
passes_at p (y ∷ xs) h zero x e = let same : y ≡ x = cc in rw same at (and_left (p 0 y) (all_at (λ n. p (suc n)) xs) h)
passes_at p (y ∷ xs) h (suc n) x e = passes_at (λ k. p (suc k)) xs (and_right (p 0 y) (all_at (λ n. p (suc n)) xs) h) n x e

-- what is so of the numbers behind a bound, and how many there are with so many of them
abbrev pub behind : ℕ → (ℕ → Type 0) → ℕ → Type 0
behind zero P k = P (suc k)
behind (suc m) P k = behind m (λ j. P (suc j)) k

abbrev pub bound_of : ℕ → ℕ → ℕ
bound_of zero n = suc n
bound_of (suc m) n = suc (bound_of m n)

-- the numbers up to a bound, in two parts
pub UpTo-parts : (P : ℕ → Type 0) (m n : ℕ) → UpTo P m → UpTo (behind m P) n → UpTo P (bound_of m n)
UpTo-parts P zero n first rest = (first, rest)
UpTo-parts P (suc m) n first rest = (first.0, UpTo-parts (λ k. P (suc k)) m n first.1 rest)
