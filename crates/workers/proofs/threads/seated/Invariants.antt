use Rattle.workers.proofs.Words.{All, AreSeatsOf, IsSeatOf, length, vec_capacity, with_each_behind, ◌+◌, ◌≡◌, ◌≤◌}
use Rattle.std.proofs.Common.{vec_len}
use Rattle.workers.proofs.threads.seated.Given as goal

abbrev pub invariant-loop-work : goal.invariant-loop-work
invariant-loop-work g l = record {
  left : AreSeatsOf l.tree l.seats.items;
  own : All (λ job. IsSeatOf l.tree job.0) l.jobs.items;
  seats : with_each_behind (λ job. job.0) l.seats.items l.jobs.items ≡ l.initial.seats.items;
  works : with_each_behind (λ job. job.1) l.works.items l.jobs.items ≡ l.initial.works.items;
  count : vec_len l.seats + vec_len l.jobs ≡ vec_len l.initial.seats;
  all : vec_len l.works + vec_len l.jobs ≡ vec_len l.initial.works;
  enough : vec_len l.initial.works ≤ vec_len l.initial.seats;
  space : vec_len l.initial.works ≤ vec_capacity l.jobs;
  seats_room : vec_capacity l.seats ≡ vec_capacity l.initial.seats;
  works_room : vec_capacity l.works ≡ vec_capacity l.initial.works;
}

abbrev pub decreases-loop-work : goal.decreases-loop-work
decreases-loop-work g l = length l.works.items
