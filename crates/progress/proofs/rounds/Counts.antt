-- How many elements of a list pass a test.
use Rattle.progress.proofs.Words.{◌≡◌, ◌<◌, ◌≤◌, ◌+◌, ℕ, zero, suc, List, [], ◌∷◌, Bool, true, false, cond, length, refl, ap, ◌∙◌, inl, inr, arith, cases_lt, ◌||◌, Contains, or_left, or_right}
use Rattle.std.proofs.lemmas.Bool.{or_cases}
use Rattle.progress.proofs.Tallies.{one_at_most}

abbrev pub many : {X : Type 0} → (X → Bool) → List X → ℕ
many p [] = 0
many p (x ∷ xs) = cond (p x) 1 0 + many p xs

pub many_within : {X : Type 0} (p : X → Bool) (xs : List X) → many p xs ≤ length xs
many_within p [] = omega arith
many_within p (x ∷ xs) = let rest = many_within p xs in let one = one_at_most (p x) in omega (arith, rest, one)

-- the first is an element, and so is each element of the rest
pub has_first : {X : Type 0} (x : X) (xs : List X) → Contains (x ∷ xs) x
has_first x xs = (0, omega arith, refl)

pub has_later : {X : Type 0} (x y : X) (xs : List X) → Contains xs y → Contains (x ∷ xs) y
has_later x y xs (k, lt, e) = (suc k, omega arith, e)

as_many : (b c : Bool) → (b ≡ true → c ≡ true) → cond b 1 0 ≤ cond c 1 0
as_many false c f = omega arith
as_many true c f = let e : cond {A = ℕ} c 1 0 ≡ 1 = rw (f refl) in omega (arith, e)

-- where each that passes one test passes the other, too
pub many_up : {X : Type 0} (p q : X → Bool) (xs : List X) → ((x : X) → Contains xs x → p x ≡ true → q x ≡ true) → many p xs ≤ many q xs
many_up p q [] up = omega arith
many_up p q (x ∷ xs) up =
    let rest = many_up p q xs (λ y c e. up y (has_later x y xs c) e) in
    let here = as_many (p x) (q x) (up x (has_first x xs)) in
    omega (arith, rest, here)

one_more : (b c : Bool) → b ≡ false → c ≡ true → cond b 1 0 < cond c 1 0
one_more b c e f = let g : cond {A = ℕ} b 1 0 ≡ 0 = rw e in let h : cond {A = ℕ} c 1 0 ≡ 1 = rw f in omega (arith, g, h)

-- and one passes the other test alone
pub many_more : {X : Type 0} (p q : X → Bool) (xs : List X) (x : X) → ((y : X) → Contains xs y → p y ≡ true → q y ≡ true) → Contains xs x → p x ≡ false → q x ≡ true → many p xs < many q xs
many_more p q [] x up (k, lt, e) off on = absurd (omega (arith, lt))
many_more p q (y ∷ ys) x up (zero, lt, e) off on =
    let rest = many_up p q ys (λ z c f. up z (has_later y z ys c) f) in
    let here = one_more (p y) (q y) (ap p e ∙ off) (ap q e ∙ on) in
    omega (arith, rest, here)
many_more p q (y ∷ ys) x up (suc k, lt, e) off on =
    let rest = many_more p q ys x (λ z c f. up z (has_later y z ys c) f) (k, omega (arith, lt), e) off on in
    let here = as_many (p y) (q y) (up y (has_first y ys)) in
    omega (arith, rest, here)

pub many_none : {X : Type 0} (p : X → Bool) (xs : List X) → ((x : X) → Contains xs x → p x ≡ false) → many p xs ≡ 0
many_none p [] none = refl
many_none p (x ∷ xs) none =
    let rest = many_none p xs (λ y c. none y (has_later x y xs c)) in
    let here : cond {A = ℕ} (p x) 1 0 ≡ 0 = rw (none x (has_first x xs)) in
    omega (arith, rest, here)

-- whether an element passes
abbrev pub any : {X : Type 0} → (X → Bool) → List X → Bool
any p [] = false
any p (x ∷ xs) = p x || any p xs

pub any_of : {X : Type 0} (p : X → Bool) (xs : List X) → any p xs ≡ true → (x : X) × Contains xs x × (p x ≡ true)
any_of p [] e = absurd (cc)
any_of p (x ∷ xs) e = elim (or_cases (p x) (any p xs) e) [ inl here ↦ (x, has_first x xs, here) | inr there ↦ let f = any_of p xs there in (f.0, has_later x f.0 xs f.1, f.2) ]

pub any_in : {X : Type 0} (p : X → Bool) (xs : List X) (x : X) → Contains xs x → p x ≡ true → any p xs ≡ true
any_in p [] x (k, lt, e) so = absurd (omega (arith, lt))
any_in p (y ∷ ys) x (zero, lt, e) so = or_left (p y) (any p ys) (ap p e ∙ so)
any_in p (y ∷ ys) x (suc k, lt, e) so = or_right (p y) (any p ys) (any_in p ys x (k, omega (arith, lt), e) so)

-- the numbers below one
abbrev pub numbers : ℕ → List ℕ
numbers zero = []
numbers (suc n) = n ∷ numbers n

pub numbers_length : (n : ℕ) → length (numbers n) ≡ n
numbers_length zero = refl
numbers_length (suc n) = let rest = numbers_length n in omega (arith, rest)

pub has_number : (n k : ℕ) → k < n → Contains (numbers n) k
has_number zero k lt = absurd (omega (arith, lt))
has_number (suc n) k lt = elim (cases_lt k n) [
  | inl less ↦ has_later n k (numbers n) (has_number n k less)
  | inr least ↦ let same : n ≡ k = omega (arith, lt, least) in rw (← same) (has_first n (numbers n))
]
