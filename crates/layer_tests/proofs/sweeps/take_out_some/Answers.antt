use Rattle.std.proofs.Common.{◌<◌, ◌≤◌, ◌≢◌, ℕ, [], ◌∷◌, arith, refl}
use Rattle.std.specs.List.{All}
use Rattle.std.proofs.lemmas.List.Elements.{All-cons}
use Rattle.std.proofs.lemmas.List.Kept.{AllPairs-cons}
use Rattle.epochs.specs.Limbo.{IsNew}
use Rattle.layer_tests.proofs.sweeps.take_out_some.Goals as goal

-- a number is new to an empty list
new : (limit n : ℕ) → 64 ≤ limit → n < 64 → IsNew (record { limit = limit; entries = [] }) n
new limit n long small = record { below = omega (arith, long, small); out = refl }

all : (limit : ℕ) → 64 ≤ limit → All (λ row. IsNew (record { limit = limit; entries = [] }) row) (3 ∷ 42 ∷ [])
all limit long =
    All-cons (λ row. IsNew (record { limit = limit; entries = [] }) row) 3 (42 ∷ []) (new limit 3 long (omega arith))
    (All-cons (λ row. IsNew (record { limit = limit; entries = [] }) row) 42 [] (new limit 42 long (omega arith)) (λ k d lt. absurd (omega (arith, lt))))

pub take_out-requires : goal.take_out-requires
take_out-requires c = rw c.requires (record {
  apart =
      AllPairs-cons (λ one other. one ≢ other) 3 (42 ∷ [])
      (All-cons (λ other. 3 ≢ other) 42 [] (λ e. absurd (omega (arith, e))) (λ k d lt. absurd (omega (arith, lt))))
      (AllPairs-cons (λ one other. one ≢ other) 42 [] (λ k d lt. absurd (omega (arith, lt))) (λ i j d before within. absurd (omega (arith, within))));
  new_rows = all c.args.limits.now.rows c.args.limits.now.allowed.some_rows;
  new_pid = new c.args.limits.now.pids 2 c.args.limits.now.allowed.some_pids (omega arith);
})
