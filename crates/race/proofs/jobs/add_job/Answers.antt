use Rattle.std.proofs.Common.{refl, rules, inr}
use Rattle.race.proofs.jobs.add_job.Goals as goal

pub returns : goal.returns
returns c = inr (record { number = c.args.number; commands = c.args.commands }, refl, refl, search rules, c.in_ok-push.ensures.items)
