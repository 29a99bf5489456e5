-- Each step of the sweep is allowed.
use Rattle.tree_law.proofs.Words.{false, ◌⊎◌, [], ap, refl, true, inl, ◌++◌, inr, ◌∷◌, ℕ, ◌≡◌, Bool, ◌∙◌, ◌<◌, arith, take, ◌==◌, lit<, eqb-true, bit_at, ◌||◌, not, is_among}
use Rattle.tree_law.proofs.Words.{ReuseRows, ReusePids, replaced_at, IsPassed, MayFree, IsDisciplined, knows, Knowledge, Empty, LimboMark, Stamped, and_right, and_left, all_below-at, small, all_links}
use Rattle.std.proofs.Common.{◌/◌, ◌%◌}
use Rattle.tree_law.specs.Sweep.{sweep}
use Rattle.tree_law.proofs.runs.LinkRun.{became, all_links_disciplined}
use Rattle.tree_law.proofs.runs.Standing.{◌▸◌, disciplined, joined}
use Rattle.tree_law.proofs.runs.Unset.{is_unset}

implied : (a b : Bool) → (not a || b) ≡ true → a ≡ true → b ≡ true
implied true b h e = h
implied false b h e = cc

one_of : (n i j k : ℕ) → ((n == i) || ((n == j) || (n == k))) ≡ true → (n ≡ i) ⊎ (n ≡ j) ⊎ (n ≡ k)
one_of n i j k e = go (n == i) (n == j) (n == k) refl refl refl e
  where
    go : (x y z : Bool) → (n == i) ≡ x → (n == j) ≡ y → (n == k) ≡ z → (x || (y || z)) ≡ true → (n ≡ i) ⊎ (n ≡ j) ⊎ (n ≡ k)
    go true y z p q r h = inl (eqb-true n i p)
    go false true z p q r h = inr (inl (eqb-true n j q))
    go false false true p q r h = inr (inr (eqb-true n k r))
    go false false false p q r h = absurd (cc)

-- the numbers of a word's bits
among : (bits i j k n : ℕ) → ((m : ℕ) → m < 64 → (not (bit_at bits m == 1) || ((m == i) || ((m == j) || (m == k)))) ≡ true) → is_among 0 bits n ≡ true → (n ≡ i) ⊎ (n ≡ j) ⊎ (n ≡ k)
among bits i j k n each e =
    let high : n / 64 ≡ 0 = eqb-true (n / 64) 0 (and_left (n / 64 == 0) (bit_at bits (n % 64) == 1) e) in
    let within : n % 64 < 64 = omega arith in
    let same : n % 64 ≡ n = omega arith in
    rw same at
    (one_of (n % 64) i j k (implied (bit_at bits (n % 64) == 1) ((n % 64 == i) || ((n % 64 == j) || (n % 64 == k))) (each (n % 64) within) (and_right (n / 64 == 0) (bit_at bits (n % 64) == 1) e)))

-- what is stamped, and passed by the only other actor, may be freed
passed_at : (limbo : ℕ → LimboMark) (n k : ℕ) (passed : ℕ → Bool) → n ≡ k → limbo k ≡ Stamped 1 passed → passed 1 ≡ true → IsPassed small 0 (limbo n)
passed_at limbo n k passed e is past = record { epoch = 1; passed = passed; stamped = ap limbo e ∙ is; all = λ other lt ne. let one : other ≡ 1 = omega arith in rw one past }

-- what the actor knows before entry n of the sweep
abbrev before : ℕ → Knowledge
before n = knows (all_links ++ take n sweep) 0

-- who has passed
abbrev looked_at : ℕ → Bool
looked_at = replaced_at 1 true (λ actor. false)

frees_rows : MayFree small 0 (before 4) (ReuseRows 0 1160)
frees_rows row e = elim (among 1160 3 7 10 row (λ m lt. all_below-at (λ m. not (bit_at 1160 m == 1) || ((m == 3) || ((m == 7) || (m == 10)))) 64 refl m lt) e) [
  | inl u ↦ passed_at (before 4).limbo.rows row 3 looked_at u refl refl
  | inr u ↦ elim u [ inl v ↦ passed_at (before 4).limbo.rows row 7 looked_at v refl refl | inr v ↦ passed_at (before 4).limbo.rows row 10 looked_at v refl refl ]
]

frees_page : MayFree small 0 (before 5) (ReusePids 0 4)
frees_page page e = let two : page ≡ 2 = elim (among 4 2 2 2 page (λ m lt. all_below-at (λ m. not (bit_at 4 m == 1) || ((m == 2) || ((m == 2) || (m == 2)))) 64 refl m lt) e) [
  | inl u ↦ u
  | inr u ↦ elim u [ inl v ↦ v | inr v ↦ v ]
] in
    passed_at (before 5).limbo.pids page 2 looked_at two refl refl

-- it frees what it took out, enters the new epoch, and takes the page and a row again
pub sweep_disciplined : IsDisciplined small (all_links ++ sweep)
sweep_disciplined = joined small [] all_links sweep all_links_disciplined (disciplined all_links sweep refl refl (
    lit< tt
    ▸ (refl, frees_rows)
    ▸ (refl, frees_page)
    ▸ (refl, lit< tt, refl)
    ▸ (refl, tt, is_unset ((2, Empty) ∷ became) refl)
    ▸ (refl, (refl, tt, is_unset ((2, Empty) ∷ became) refl))
    ▸ tt))
