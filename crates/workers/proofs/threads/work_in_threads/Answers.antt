use Rattle.workers.proofs.Words.{AreSeatsOf, IsSeatOf, ap, arith, subst, sym, with_each_behind, ◌∙◌}
use Rattle.workers.proofs.Behind.{own_behind}
use Rattle.seats.proofs.Pushed.{all_at, written}
use Rattle.workers.proofs.threads.work_in_threads.Goals as goal

pub returns-clause-own : goal.returns-clause-own
returns-clause-own g c =
    let jobs = c.seated-jobs.result.items in
    let back = c.in_threads.new.jobs in
    let lent = c.as_mut_slice.ensures.value in
    let each = rw lent at c.in_threads.ensures in
    let count = each.count in
    let long = c.seated-jobs.result.ok.0 in
    let same = written c.seated-jobs.result.len back jobs (omega (arith, count, long)) in
    subst (AreSeatsOf c.args.tree.now) (sym (c.parted.ensures.seats ∙ ap (with_each_behind (λ job. job.0) c.seated-jobs.new.seats.items) same))
    (own_behind g.W.Work.does c.args.tree.now c.seated-jobs.new.seats.items jobs back c.seated-jobs.ensures.left (all_at (λ job. IsSeatOf c.args.tree.now job.0) jobs c.seated-jobs.ensures.own) each)

pub returns-clause-done : goal.returns-clause-done
returns-clause-done g c =
    let jobs = c.seated-jobs.result.items in
    let back = c.in_threads.new.jobs in
    let lent = c.as_mut_slice.ensures.value in
    let each = rw lent at c.in_threads.ensures in
    let count = each.count in
    let long = c.seated-jobs.result.ok.0 in
    let same = written c.seated-jobs.result.len back jobs (omega (arith, count, long)) in record {
      others = c.seated-jobs.new.seats.items;
      before = jobs;
      after = back;
      seats = sym c.seated-jobs.ensures.seats;
      works = sym c.seated-jobs.ensures.works ∙ ap (λ z. with_each_behind (λ job. job.1) z jobs) c.seated-jobs.ensures.none;
      seats_after = c.parted.ensures.seats ∙ ap (with_each_behind (λ job. job.0) c.seated-jobs.new.seats.items) same;
      works_after = c.parted.ensures.works ∙ ap (with_each_behind (λ job. job.1) c.seated-jobs.new.works.items) same ∙ ap (λ z. with_each_behind (λ job. job.1) z back) c.seated-jobs.ensures.none;
      each = each;
    }
