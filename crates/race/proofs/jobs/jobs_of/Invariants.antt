use Rattle.std.proofs.Common.{◌≡◌, length}
use Rattle.race.proofs.Grouping.{SomeJobs}
use Rattle.race.proofs.jobs.jobs_of.Given as goal

abbrev pub invariant-loop-commands : goal.invariant-loop-commands
invariant-loop-commands l = record {
  count : l.number ≡ length l.yielded;
  jobs : SomeJobs l.fn.asked.items l.number l.jobs.items;
}
