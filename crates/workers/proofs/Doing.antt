-- Jobs that a worker has done, one after another.
use Rattle.workers.proofs.Words.{All, All-nil, All-push, HasDone, JobResult, Seat, Worker, ap, append-nil, arith, calls_told, flat_map, flat_map-append, length}
use Rattle.workers.proofs.Words.{length-append, subst, sym, unfinished_command, vec_len, ℕ, [], ◌++◌, ◌<◌, ◌∙◌, ◌∷◌, ◌≡◌}
use Rattle.std.specs.Prelude.{None}
use Rattle.workers.specs.Working.{AddsResult}
use Rattle.workers.proofs.Going.{goes_on, stays}

abbrev IsAt : {A : Type 0} → ℕ → JobResult A → Type 0
IsAt place result = result.seat ≡ place

-- a worker that has done none
pub none_done : {A : Type 0} (place limit : ℕ) (worker : Worker A) → unfinished_command worker.seat ≡ None → worker.done.items ≡ [] → HasDone place limit worker.seat worker
none_done place limit worker idle empty =
    let count = worker.done.ok.0 ∙ ap length empty in record {
      goes = rw empty (stays worker.seat idle);
      named = subst (All (IsAt place)) (sym empty) (All-nil (IsAt place));
      few = omega (arith, count);
    }

-- one job more
pub one_more : {A : Type 0} (place limit : ℕ) (old : Seat) (mid new : Worker A) → HasDone place limit old mid → vec_len mid.done < limit → AddsResult place mid new → HasDone place limit old new
one_more place limit old mid new before below adds =
    let told = flat_map-append calls_told mid.done.items (adds.result ∷ []) ∙ ap (λ z. flat_map calls_told mid.done.items ++ z) (append-nil (calls_told adds.result)) in
    let longer = new.done.ok.0 ∙ ap length adds.kept ∙ length-append mid.done.items (adds.result ∷ []) in
    let was = mid.done.ok.0 in record {
      goes =
          rw (ap (flat_map calls_told) adds.kept ∙ told) (goes_on old mid.seat new.seat (flat_map calls_told mid.done.items) (calls_told adds.result) before.goes adds.goes);
      named = subst (All (IsAt place)) (sym adds.kept) (All-push (IsAt place) mid.done.items adds.result before.named adds.named);
      few = omega (arith, longer, was, below);
    }
