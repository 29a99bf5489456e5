-- A function changed at one place: what holds at that place and at the others.
use Rattle.tree_law.proofs.Words.{false, refl, Option, None, true, inl, ◌≢◌, inr, ℕ, ◌≡◌, Bool, Some, eqb, put}
use Rattle.std.proofs.lemmas.Bool.{eq-eqb}
-- what tests of numbers say; a test is true or false; what is not true is false
pub use Rattle.std.proofs.lemmas.Bool.{eqb-true as eqb_true, eqb-false as eqb_false, ne_eqb as eqb_apart, cases_Bool as decided, false_from_ne_true as false_if}

pub eqb_same : (i : ℕ) → eqb i i ≡ true
eqb_same i = eq-eqb i i refl

-- what is not something is nothing
pub none_if : {X : Type 0} (o : Option X) → ((x : X) → o ≡ Some x → ⊥) → o ≡ None
none_if None never = refl
none_if (Some x) never = absurd (never x refl)

-- by cases: the same number or another one, and what the test of the two then says
pub by_equal : {P : Type 0} (j i : ℕ) → (j ≡ i → eqb j i ≡ true → P) → (j ≢ i → eqb j i ≡ false → P) → P
by_equal j i same other = elim (decided (eqb j i)) [ inl t ↦ same (eqb_true j i t) t | inr t ↦ other (eqb_false j i t) t ]

pub put_same : {X : Type 0} (f : ℕ → X) (i : ℕ) (v : X) → put f i v i ≡ v
put_same {X} f i v = rw eqb_same

pub put_other : {X : Type 0} (f : ℕ → X) (i : ℕ) (v : X) (j : ℕ) → j ≢ i → put f i v j ≡ f j
put_other {X} f i v j ne = rw (eqb_apart j i ne)

-- what is there and is not the new value was there
pub put_was : {X : Type 0} (f : ℕ → X) (i : ℕ) (v : X) (j : ℕ) {w : X} → (v ≡ w → ⊥) → put f i v j ≡ w → f j ≡ w
put_was {X} f i v j {w} never = by_equal j i (λ e t. rw t λ h. absurd (never h)) (λ ne t. rw t λ h. h)

-- a bit that is set stays set
pub put_true : (f : ℕ → Bool) (i j : ℕ) → f j ≡ true → put f i true j ≡ true
put_true f i j h = by_equal j i (λ e t. rw t) (λ ne t. rw t h)

-- what holds of the new value at its place, and of the old ones elsewhere
pub put_all : {X : Type 0} (P : ℕ → X → Type 0) (f : ℕ → X) (i : ℕ) (v : X) → P i v → ((j : ℕ) → j ≢ i → P j (f j)) → (j : ℕ) → P j (put f i v j)
put_all {X} P f i v here others j = by_equal j i (λ e t. rw (t, e) here) (λ ne t. rw t (others j ne))

-- what holds of the new value at its place, and of the old one elsewhere
pub at_place : {X : Type 0} (P : X → Type 0) (n : ℕ) (x : X) (f : ℕ → X) (k : ℕ) → (k ≡ n → P x) → (k ≢ n → P (f k)) → P (put f n x k)
at_place {X} P n x f k here elsewhere = by_equal k n (λ e t. rw t (here e)) (λ ne t. rw t (elsewhere ne))
