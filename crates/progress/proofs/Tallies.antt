-- How many places from one on pass a test, and sums of numbers.
use Rattle.progress.proofs.Words.{◌≡◌, ◌<◌, ◌≤◌, ◌+◌, ◌-◌, ◌*◌, ◌++◌, ℕ, zero, suc, List, [], ◌∷◌, Option, None, Some, Bool, true, false, cond, drop, length, take, refl, ap, ◌∙◌, inl, inr}
use Rattle.progress.proofs.Words.{arith, mul-add, eqb_tells, All-push, fold-append, All, count_by, IsStrictlyIncreasing, ◌==◌, slice_get, take-one, increasing_push, pushed_length, take_past}
use Rattle.progress.proofs.Counted.{AreDistinct, Each, among, distinct_without, each_without, without}
use Rattle.traces.proofs.Cuts.{get_drop}

-- how many of the first n places from m on pass the test
abbrev pub tally : (ℕ → Bool) → ℕ → ℕ → ℕ
tally t m zero = 0
tally t m (suc n) = tally t m n + cond (t (m + n)) 1 0

-- first some places, and then others
pub tally_split : (t : ℕ → Bool) (m a b : ℕ) → tally t m (a + b) ≡ tally t m a + tally t (m + a) b
tally_split t m a zero = let e : a + 0 ≡ a = omega arith in rw e (omega arith)
tally_split t m a (suc b) =
    let e : a + suc b ≡ suc (a + b) = omega arith in
    let f : m + (a + b) ≡ m + a + b = omega arith in
    let rest = tally_split t m a b in
    rw (e, f) (omega (arith, rest))

pub tally_grows : (t : ℕ → Bool) (m a b : ℕ) → a ≤ b → tally t m a ≤ tally t m b
tally_grows t m a b le =
    let e : a + (b - a) ≡ b = omega arith in
    let split = tally_split t m a (b - a) in
    let same : tally t m (a + (b - a)) ≡ tally t m b = ap (tally t m) e in
    omega (arith, split, same)

-- what passes one test passes one of two others
pub tally_either : (t u v : ℕ → Bool) (m n : ℕ) → ((k : ℕ) → cond (t k) 1 0 ≤ cond (u k) 1 0 + cond (v k) 1 0) → tally t m n ≤ tally u m n + tally v m n
tally_either t u v m zero each = omega arith
tally_either t u v m (suc n) each = let rest = tally_either t u v m n each in let here = each (m + n) in omega (arith, rest, here)

pub tally_same : (t u : ℕ → Bool) (m k n : ℕ) → ((i : ℕ) → i < n → t (m + i) ≡ u (k + i)) → tally t m n ≡ tally u k n
tally_same t u m k zero each = refl
tally_same t u m k (suc n) each =
    let rest = tally_same t u m k n (λ i lt. each i (omega arith)) in
    let here : cond {A = ℕ} (t (m + n)) 1 0 ≡ cond (u (k + n)) 1 0 = rw (each n (omega arith)) in
    omega (arith, rest, here)

pub tally_none : (t : ℕ → Bool) (m n : ℕ) → ((i : ℕ) → i < n → t (m + i) ≡ false) → tally t m n ≡ 0
tally_none t m zero each = refl
tally_none t m (suc n) each =
    let rest = tally_none t m n (λ i lt. each i (omega arith)) in
    let here : cond {A = ℕ} (t (m + n)) 1 0 ≡ 0 = rw (each n (omega arith)) in
    omega (arith, rest, here)

pub itself : (a : ℕ) → (a == a) ≡ true
itself a = elim (eqb_tells a a) [ inl same ↦ same.0 | inr apart ↦ absurd (apart.1 refl) ]

pub one_at_most : (b : Bool) → cond b 1 0 ≤ 1
one_at_most true = omega arith
one_at_most false = omega arith

pub tally_within : (t : ℕ → Bool) (m n : ℕ) → tally t m n ≤ n
tally_within t m zero = omega arith
tally_within t m (suc n) = let rest = tally_within t m n in let here = one_at_most (t (m + n)) in omega (arith, rest, here)

module _ (t : ℕ → Bool) (m : ℕ) where
  -- different places that pass are no more than are counted
  pub tally_most : (n : ℕ) (js : List ℕ) → AreDistinct js → Each (λ j. (j < n) × (t (m + j) ≡ true)) js → length js ≤ tally t m n
  tally_most zero [] distinct each = omega arith
  tally_most zero (j ∷ js) distinct each = let lt : j < 0 = each.0.0 in absurd (omega arith)
  tally_most (suc n) js distinct each =
      let rest : length (without n js) ≤ tally t m n = tally_most n (without n js) (distinct_without n js distinct)
      (each_without (λ j. (j < suc n) × (t (m + j) ≡ true)) (λ j. (j < n) × (t (m + j) ≡ true)) n js (λ k h other. (let lt : k < suc n = h.0 in omega (arith, lt, other), h.1)) distinct each) in
      elim (among n (λ j. (j < suc n) × (t (m + j) ≡ true)) js each) [
        | inl there ↦ let here : cond {A = ℕ} (t (m + n)) 1 0 ≡ 1 = rw there.0.1 in omega (arith, rest, there.1, here)
        | inr none ↦ omega (arith, rest, none)
      ]

  -- the places that pass, in order
  pub record Listed (n : ℕ) : Type 0 where
    pub places : List ℕ
    pub increasing : IsStrictlyIncreasing places
    pub each : All (λ k. (m ≤ k) × (k < m + n) × (t k ≡ true)) places
    pub counts : length places ≡ tally t m n

  one_listed : (n : ℕ) → Listed n → Listed (suc n)
  one_listed n before = by_test (t (m + n)) refl
    where
      longer : All (λ k. (m ≤ k) × (k < m + suc n) × (t k ≡ true)) before.places
      longer =
          λ i d in_list. let h = before.each i d in_list in (h.0, (let lt = h.1 in omega (arith, lt)), h.2)

      by_test : (b : Bool) → t (m + n) ≡ b → Listed (suc n)
      by_test false e = record {
        places = before.places;
        increasing = before.increasing;
        each = longer;
        counts = let here : cond {A = ℕ} (t (m + n)) 1 0 ≡ 0 = rw e in let old = before.counts in omega (arith, here, old);
      }
      by_test true e = record {
        places = before.places ++ (m + n) ∷ [];
        increasing = increasing_push before.places (m + n) before.increasing (λ i d lt. (before.each i d lt).1);
        each = All-push (λ k. (m ≤ k) × (k < m + suc n) × (t k ≡ true)) before.places (m + n) longer (omega arith, omega arith, e);
        counts =
            let here : cond {A = ℕ} (t (m + n)) 1 0 ≡ 1 = rw e in
            let old = before.counts in
            let long = pushed_length before.places (m + n) in
            omega (arith, here, old, long);
      }

  pub listed : (n : ℕ) → Listed n
  listed zero = record { places = []; increasing = λ j h. absurd (omega arith); each = λ j d h. absurd (omega arith); counts = refl }
  listed (suc n) = one_listed n (listed n)

-- whether what stands at a place passes
abbrev pub passes : {X : Type 0} → (X → Bool) → Option X → Bool
passes p None = false
passes p (Some x) = p x

module _ {X : Type 0} (p : X → Bool) where
  abbrev pub passes_in : List X → ℕ → Bool
  passes_in xs k = passes p (slice_get xs k)

  pub counted_taken : (xs : List X) (n : ℕ) → count_by p (take n xs) ≡ tally (passes_in xs) 0 n
  counted_taken xs zero = refl
  counted_taken xs (suc n) = by_entry (counted_taken xs n) (slice_get xs n) refl ∙ ap (λ k. tally (passes_in xs) 0 n + cond (passes_in xs k) 1 0) at_n
    where
      at_n : n ≡ 0 + n
      at_n = omega arith

      by_entry : count_by p (take n xs) ≡ tally (passes_in xs) 0 n → (o : Option X) → slice_get xs n ≡ o
          → count_by p (take (suc n) xs) ≡ tally (passes_in xs) 0 n + cond (passes p (slice_get xs n)) 1 0
      by_entry rest None e = rw e (let same : count_by p (take (suc n) xs) ≡ count_by p (take n xs) = ap (count_by p) (take_past xs n e) in omega (arith, rest, same))
      by_entry rest (Some x) e =
          let same : count_by p (take (suc n) xs) ≡ count_by p (take n xs) + cond (p x) 1 0 = ap (count_by p) (take-one xs n x e) ∙ fold-append _ _ (take n xs) (x ∷ []) in
          rw e (omega (arith, rest, same))

  pub counted_range : (xs : List X) (m n : ℕ) → count_by p (take n (drop m xs)) ≡ tally (passes_in xs) m n
  counted_range xs m n =
      counted_taken (drop m xs) n
      ∙ tally_same (passes_in (drop m xs)) (passes_in xs) 0 m n (λ i lt. let at : 0 + i ≡ i = omega arith in ap (passes_in (drop m xs)) at ∙ ap (passes p) (get_drop xs m i))

-- Sums.
abbrev pub sum : (ℕ → ℕ) → ℕ → ℕ
sum f zero = 0
sum f (suc n) = sum f n + f n

pub sum_both : (f g : ℕ → ℕ) (n : ℕ) → sum (λ i. f i + g i) n ≡ sum f n + sum g n
sum_both f g zero = refl
sum_both f g (suc n) = let rest = sum_both f g n in omega (arith, rest)

pub sum_same : (f g : ℕ → ℕ) (n : ℕ) → ((i : ℕ) → f i ≡ g i) → sum f n ≡ sum g n
sum_same f g zero each = refl
sum_same f g (suc n) each = let rest = sum_same f g n each in let here = each n in omega (arith, rest, here)

pub sum_less : (f g : ℕ → ℕ) (n : ℕ) → ((i : ℕ) → f i ≤ g i) → sum f n ≤ sum g n
sum_less f g zero each = omega arith
sum_less f g (suc n) each = let rest = sum_less f g n each in let here = each n in omega (arith, rest, here)

pub sum_none : (f : ℕ → ℕ) (n : ℕ) → ((i : ℕ) → i < n → f i ≡ 0) → sum f n ≡ 0
sum_none f zero each = refl
sum_none f (suc n) each = let rest = sum_none f n (λ i lt. each i (omega arith)) in let here = each n (omega arith) in omega (arith, rest, here)

-- one of them is the number
pub sum_one : (b n : ℕ) → b < n → sum (λ a. cond (b == a) 1 0) n ≡ 1
sum_one b zero lt = absurd (omega arith)
sum_one b (suc n) lt = elim (eqb_tells b n) [
  | inl same ↦
      let none = sum_none (λ a. cond (b == a) 1 0) n
      (λ i below. elim (eqb_tells b i) [ inl e ↦ absurd (let f : b ≡ n = same.1 in let g : b ≡ i = e.1 in omega arith) | inr apart ↦ ap (λ (t : Bool). cond {A = ℕ} t 1 0) apart.0 ])
      in
      let here : cond {A = ℕ} (b == n) 1 0 ≡ 1 = rw same.0 in
      omega (arith, none, here)
  | inr apart ↦
      let rest = sum_one b n (let ne = apart.1 in omega arith) in
      let here : cond {A = ℕ} (b == n) 1 0 ≡ 0 = rw apart.0 in
      omega (arith, rest, here)
]

-- so many times the same worth
pub sum_worth : (worth more : ℕ) (f : ℕ → ℕ) (n : ℕ) → sum (λ i. worth * (f i + more)) n ≡ worth * (sum f n + n * more)
sum_worth worth more f zero = omega arith
sum_worth worth more f (suc n) =
    let rest = sum_worth worth more f n in
    let grown : suc n * more ≡ n * more + more = omega arith in
    let e : sum f n + f n + suc n * more ≡ (sum f n + n * more) + (f n + more) = omega (arith, grown) in
    let both : worth * ((sum f n + n * more) + (f n + more)) ≡ worth * (sum f n + n * more) + worth * (f n + more) = mul-add worth (sum f n + n * more) (f n + more) in
    let same : worth * (sum f n + f n + suc n * more) ≡ worth * ((sum f n + n * more) + (f n + more)) = rw e in
    omega (arith, rest, both, same)
