use Rattle.workers.proofs.Words.{length, vec_capacity, with_each_behind, ◌+◌, ◌≡◌, ◌≤◌}
use Rattle.std.proofs.Common.{vec_len}
use Rattle.workers.proofs.threads.parted.Given as goal

abbrev pub invariant-loop-seat : goal.invariant-loop-seat
invariant-loop-seat g l = record {
  seats : with_each_behind (λ job. job.0) l.seats.items l.jobs.items ≡ with_each_behind (λ job. job.0) l.initial.seats.items l.fn.jobs.items;
  works : with_each_behind (λ job. job.1) l.works.items l.jobs.items ≡ with_each_behind (λ job. job.1) l.initial.works.items l.fn.jobs.items;
  count : vec_len l.seats + vec_len l.jobs ≡ vec_len l.initial.seats + vec_len l.fn.jobs;
  all : vec_len l.works + vec_len l.jobs ≡ vec_len l.initial.works + vec_len l.fn.jobs;
  seats_room : vec_len l.initial.seats + vec_len l.fn.jobs ≤ vec_capacity l.seats;
  works_room : vec_len l.initial.works + vec_len l.fn.jobs ≤ vec_capacity l.works;
}

abbrev pub decreases-loop-seat : goal.decreases-loop-seat
decreases-loop-seat g l = length l.jobs.items
