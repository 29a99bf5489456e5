-- The results of workers, each of which names its worker's place.
use Rattle.workers.proofs.Words.{All, All-nil, All-weaker, IsPermutation, JobResult, List, Some, Worker, append_assoc, arith, flat_map, length, refl, same_Some}
use Rattle.workers.proofs.Words.{slice_get, subst, suc, zero, ℕ, [], ◌++◌, ◌+◌, ◌<◌, ◌∷◌, ◌≡◌, ◌≤◌}
use Rattle.std.proofs.lemmas.List.Elements.{All-append}
use Rattle.std.proofs.lemmas.List.Sorted.{IsPermutation-refl, IsPermutation-sym, IsPermutation-trans, IsPermutation-append_left, IsPermutation-append_right}
use Rattle.std.proofs.lemmas.List.Sorted.{IsPermutation-append_comm}
use Rattle.workers.specs.Worked.{AreNamed}

abbrev pub done_by : {A : Type 0} → Worker A → List (JobResult A)
done_by worker = worker.done.items

-- The results of each worker name its place, from this one on.
abbrev pub ArePlaced : {A : Type 0} → ℕ → List (Worker A) → Type 0
ArePlaced {A = A} base workers = (n : ℕ) (worker : Worker A) → slice_get workers n ≡ Some worker → All (λ result. result.seat ≡ base + n) (done_by worker)

shifted : {A : Type 0} (base : ℕ) (first : Worker A) (workers : List (Worker A)) → ArePlaced base (first ∷ workers) → ArePlaced (suc base) workers
shifted base first workers placed n worker at =
    All-weaker (λ result. result.seat ≡ base + suc n) (λ result. result.seat ≡ suc base + n) (λ result e. omega (arith, e)) (done_by worker) (placed (suc n) worker at)

others_apart : {A : Type 0} (place base : ℕ) (workers : List (Worker A)) → place < base → ArePlaced base workers → All (λ result. result.seat ≡ place → ⊥) (flat_map done_by workers)
others_apart place base [] below placed = All-nil (λ result. result.seat ≡ place → ⊥)
others_apart place base (worker ∷ workers) below placed =
    All-append (λ result. result.seat ≡ place → ⊥) (done_by worker) (flat_map done_by workers)
    (All-weaker (λ result. result.seat ≡ base + 0) (λ result. result.seat ≡ place → ⊥) (λ result e same. absurd (omega (arith, below, e, same))) (done_by worker) (placed 0 worker refl))
    (others_apart place (suc base) workers (omega (arith, below)) (shifted base worker workers placed))

-- each result names a place below so many, where there are no more workers
pub all_within : {A : Type 0} (count base : ℕ) (workers : List (Worker A)) → base + length workers ≤ count → ArePlaced base workers → All (λ result. result.seat < count) (flat_map done_by workers)
all_within count base [] few placed = All-nil (λ result. result.seat < count)
all_within count base (worker ∷ workers) few placed =
    All-append (λ result. result.seat < count) (done_by worker) (flat_map done_by workers)
    (All-weaker (λ result. result.seat ≡ base + 0) (λ result. result.seat < count) (λ result e. omega (arith, few, e)) (done_by worker) (placed 0 worker refl))
    (all_within count (suc base) workers (omega (arith, few)) (shifted base worker workers placed))

between : {A : Type 0} (xs order others : List (JobResult A)) → IsPermutation (xs ++ (order ++ others)) (order ++ (xs ++ others))
between xs order others =
    rw (← append_assoc xs order others)
    (subst (IsPermutation ((xs ++ order) ++ others)) (append_assoc order xs others)
    (IsPermutation-append_left others (xs ++ order) (order ++ xs) (IsPermutation-append_comm xs order)))

-- the results that name a place are those of the worker there
pub named : {A : Type 0} (base : ℕ) (workers : List (Worker A)) → ArePlaced base workers → (n : ℕ) (worker : Worker A) → slice_get workers n ≡ Some worker
    → AreNamed (base + n) (flat_map done_by workers) (done_by worker)
named base [] placed n worker at = cc
named base (first ∷ workers) placed zero worker at = rw (← (same_Some first worker at)) record {
  others = flat_map done_by workers;
  all = IsPermutation-refl (done_by first ++ flat_map done_by workers);
  named = placed 0 first refl;
  apart = others_apart (base + 0) (suc base) workers (omega arith) (shifted base first workers placed);
}
named base (first ∷ workers) placed (suc n) worker at =
    let rest = named (suc base) workers (shifted base first workers placed) n worker at in record {
      others = done_by first ++ rest.others;
      all = IsPermutation-trans (done_by first ++ flat_map done_by workers) (done_by first ++ (done_by worker ++ rest.others)) (done_by worker ++ (done_by first ++ rest.others))
          (IsPermutation-append_right (done_by first) (flat_map done_by workers) (done_by worker ++ rest.others) rest.all)
          (between (done_by first) (done_by worker) rest.others);
      named = placed (suc n) worker at;
      apart = All-append (λ result. result.seat ≡ base + suc n → ⊥) (done_by first) rest.others
          (All-weaker (λ result. result.seat ≡ base + 0) (λ result. result.seat ≡ base + suc n → ⊥) (λ result e same. absurd (omega (arith, e, same))) (done_by first) (placed 0 first refl))
          (All-weaker (λ result. result.seat ≡ suc base + n → ⊥) (λ result. result.seat ≡ base + suc n → ⊥) (λ result apart same. apart (omega (arith, same))) rest.others rest.apart);
    }

-- in whatever order the results stand
pub reordered : {A : Type 0} (place : ℕ) (xs ys order : List (JobResult A)) → IsPermutation xs ys → AreNamed place xs order → AreNamed place ys order
reordered place xs ys order moved is = record {
  others = is.others;
  all = IsPermutation-trans ys xs (order ++ is.others) (IsPermutation-sym xs ys moved) is.all;
  named = is.named;
  apart = is.apart;
}
