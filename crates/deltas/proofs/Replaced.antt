-- A function with one value replaced: what it gives there and elsewhere.
use Rattle.std.proofs.Common.{◌≡◌, ◌≢◌, ℕ, eq-eqb, ne_eqb, refl}
use Rattle.deltas.specs.Memory.{replaced_at}

pub replaced_same : {X : Type 0} (n : ℕ) (x : X) (f : ℕ → X) → replaced_at n x f n ≡ x
replaced_same n x f = rw (eq-eqb n n refl) refl

pub replaced_other : {X : Type 0} (n : ℕ) (x : X) (f : ℕ → X) (k : ℕ) → k ≢ n → replaced_at n x f k ≡ f k
replaced_other n x f k other = rw (ne_eqb k n other) refl
