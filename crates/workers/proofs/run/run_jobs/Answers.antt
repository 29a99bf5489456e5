use Rattle.workers.proofs.Words.{AreIdle, AreResultsOf, AreSeatsOf, arith, subst, sym, ◌∙◌}
use Rattle.workers.proofs.Parting.{gathered, idle_after, not_run, one_history, own_after, stopped, where_false, worked_reordered}
use Rattle.workers.proofs.run.run_jobs.Goals as goal

pub gather-requires-clause-own : goal.gather-requires-clause-own
gather-requires-clause-own g c = own_after c.args.tree.now c.in-Ok-worked.done.0.items c.args.seats.items c.in-Ok-worked.done.1.items c.in-Ok-worked.ensures.worked c.requires.own

pub gather-requires-clause-some : goal.gather-requires-clause-some
gather-requires-clause-some g c =
    let count = c.in-Ok-worked.ensures.worked.count in
    let now = c.in-Ok-worked.done.1.ok.0 in
    let before = c.args.seats.ok.0 in
    let some = c.requires.some in omega (arith, count, now, before, some)

pub returns-then-are_results-clause-worked : goal.returns-then-are_results-clause-worked
returns-then-are_results-clause-worked g c =
    let worked = gathered c.in-Ok-worked.done.0.items c.args.seats.items c.in-Ok-worked.done.1.items c.gather.new.seats.items c.in-Ok-worked.ensures.worked c.gather.ensures.gathered in
    worked_reordered c.in-Ok-worked.done.0.items c.sorted-results.result.items c.args.seats.items c.gather.new.seats.items c.sorted-results.ensures.permutation worked

pub returns-then-are_results-clause-one : goal.returns-then-are_results-clause-one
returns-then-are_results-clause-one g c = one_history c.in-Ok-worked.done.1.items c.gather.new.seats.items c.gather.ensures.gathered

pub returns-then-are_results-clause-idle : goal.returns-then-are_results-clause-idle
returns-then-are_results-clause-idle g c =
    let worked = gathered c.in-Ok-worked.done.0.items c.args.seats.items c.in-Ok-worked.done.1.items c.gather.new.seats.items c.in-Ok-worked.ensures.worked c.gather.ensures.gathered in
    idle_after c.in-Ok-worked.done.0.items c.args.seats.items c.gather.new.seats.items worked

pub returns-then-are_results-clause-some : goal.returns-then-are_results-clause-some
returns-then-are_results-clause-some g c =
    let count = c.in-Ok-worked.ensures.worked.count in
    let now = c.in-Ok-worked.done.1.ok.0 in
    let before = c.args.seats.ok.0 in
    let same = c.gather.ensures.count in omega (arith, count, now, before, same)

pub returns-clause-refused : goal.returns-clause-refused
returns-clause-refused g c =
    let other = where_false (AreResultsOf c.as_slice-2.result.now c.as_slice-3.result.now) (AreResultsOf c.as_slice-2.result.now c.as_slice-3.result.now → ⊥)
    c.are_results.result c.if-are_results.false c.are_results.ensures in
    let worked = gathered c.in-Ok-worked.done.0.items c.args.seats.items c.in-Ok-worked.done.1.items c.gather.new.seats.items c.in-Ok-worked.ensures.worked c.gather.ensures.gathered in
    stopped c.args.jobs.items c.wrong.result.refusal c.sorted-results.result.items c.wrong.result.results.items c.args.seats.items c.gather.new.seats.items c.wrong.result.seats.items
    c.wrong.ensures.refusal c.wrong.ensures.results c.wrong.ensures.seats
    (worked_reordered c.in-Ok-worked.done.0.items c.sorted-results.result.items c.args.seats.items c.gather.new.seats.items c.sorted-results.ensures.permutation worked)
    (one_history c.in-Ok-worked.done.1.items c.gather.new.seats.items c.gather.ensures.gathered)
    c.sorted-results.ensures.order
    (λ is. other (rw c.as_slice-2.ensures.value (subst (AreResultsOf c.args.jobs.items) (sym c.as_slice-3.ensures.value) is)))

pub returns-clause-left : goal.returns-clause-left
returns-clause-left g c =
    let worked = gathered c.in-Ok-worked.done.0.items c.args.seats.items c.in-Ok-worked.done.1.items c.gather.new.seats.items c.in-Ok-worked.ensures.worked c.gather.ensures.gathered in
    let idle = idle_after c.in-Ok-worked.done.0.items c.args.seats.items c.gather.new.seats.items worked in
    (subst (AreSeatsOf c.args.tree.now) (sym c.wrong.ensures.seats) c.gather.ensures.own, subst AreIdle (sym c.wrong.ensures.seats) idle)

pub returns-in_default-clause-left : goal.returns-in_default-clause-left
returns-in_default-clause-left g c = (subst (AreSeatsOf c.args.tree.now) (sym c.not_run.ensures.seats) c.requires.own, subst AreIdle (sym c.not_run.ensures.seats) c.requires.idle)

pub returns-in_default-tasks-clause-left : goal.returns-in_default-tasks-clause-left
returns-in_default-tasks-clause-left g c =
    (subst (AreSeatsOf c.args.tree.now) (sym c.not_run-in_default-tasks.ensures.seats) c.requires.own, subst AreIdle (sym c.not_run-in_default-tasks.ensures.seats) c.requires.idle)

pub returns-in-Err-clause-left : goal.returns-in-Err-clause-left
returns-in-Err-clause-left g c =
    let same = c.not_run-in-Err.ensures.seats ∙ c.in-Err.ensures.left in
    (subst (AreSeatsOf c.args.tree.now) (sym same) c.requires.own, subst AreIdle (sym same) c.requires.idle)

pub returns-in_default-clause-refused : goal.returns-in_default-clause-refused
returns-in_default-clause-refused g c =
    not_run c.args.jobs.items c.not_run.result.refusal c.not_run.result.results.items c.args.seats.items c.not_run.result.seats.items c.not_run.ensures.refusal
    c.not_run.ensures.seats c.not_run.ensures.results

pub returns-in_default-tasks-clause-refused : goal.returns-in_default-tasks-clause-refused
returns-in_default-tasks-clause-refused g c =
    not_run c.args.jobs.items c.not_run-in_default-tasks.result.refusal c.not_run-in_default-tasks.result.results.items c.args.seats.items
    c.not_run-in_default-tasks.result.seats.items c.not_run-in_default-tasks.ensures.refusal c.not_run-in_default-tasks.ensures.seats
    c.not_run-in_default-tasks.ensures.results

pub returns-in-Err-clause-refused : goal.returns-in-Err-clause-refused
returns-in-Err-clause-refused g c =
    not_run c.args.jobs.items c.not_run-in-Err.result.refusal c.not_run-in-Err.result.results.items c.args.seats.items c.not_run-in-Err.result.seats.items
    c.not_run-in-Err.ensures.refusal (c.not_run-in-Err.ensures.seats ∙ c.in-Err.ensures.left) c.not_run-in-Err.ensures.results
