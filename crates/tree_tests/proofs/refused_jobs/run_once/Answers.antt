use Rattle.std.proofs.Common.{refl}
use Rattle.tree_tests.proofs.refused_jobs.run_once.Goals as goal

pub run_jobs-ran-requires-clause-some : goal.run_jobs-ran-requires-clause-some
run_jobs-ran-requires-clause-some g c κs within = c.in-Some.ensures.some refl
