use Rattle.workers.proofs.Words.{All-push, AreSeatsOf, IsSeatOf, Some, ap, arith, subst, sym, with_each_behind, [], ◌∙◌, ◌∷◌}
use Rattle.workers.proofs.Behind.{behind_push}
use Rattle.seats.proofs.Pushed.{all_before, last_of}
use Rattle.workers.proofs.threads.seated.Goals as goal

pub loop-work-preserved : goal.loop-work-preserved
loop-work-preserved g c =
    let before = c.loop-work.invariant in
    let seat = c.in-Some-pop.seat in
    let work = c.in-Some.work in
    let seats = c.pop-in-Some.new.self.items in
    let jobs = c.loop-work.jobs.items in
    let all = subst (AreSeatsOf c.args.tree.now) c.in-Some-pop.ensures.items before.left in
    let fewer = c.in-Some-pop.ensures.cases in
    let less = c.in-Some.ensures.cases in
    let longer = c.push_reserved.ensures.len in
    let count = before.count in
    let works = before.all in record {
      left = all_before (IsSeatOf c.args.tree.now) seats (seat ∷ []) all;
      own = rw c.push_reserved.ensures.items (All-push (λ job. IsSeatOf c.args.tree.now job.0) jobs (seat, work) before.own (last_of (IsSeatOf c.args.tree.now) seats (Some seat) all));
      seats =
          ap (λ z. with_each_behind (λ job. job.0) seats z) c.push_reserved.ensures.items ∙ behind_push (λ job. job.0) seats jobs (seat, work)
          ∙ ap (λ z. with_each_behind (λ job. job.0) z jobs) (sym c.in-Some-pop.ensures.items) ∙ before.seats;
      works =
          ap (λ z. with_each_behind (λ job. job.1) c.pop.new.self.items z) c.push_reserved.ensures.items
          ∙ behind_push (λ job. job.1) c.pop.new.self.items jobs (seat, work) ∙ ap (λ z. with_each_behind (λ job. job.1) z jobs) (sym c.in-Some.ensures.items)
          ∙ before.works;
      count = omega (arith, fewer, longer, count);
      all = omega (arith, less, longer, works);
      enough = before.enough;
      space = rw c.push_reserved.ensures.capacity before.space;
      seats_room = c.in-Some-pop.ensures.capacity ∙ before.seats_room;
      works_room = c.in-Some.ensures.capacity ∙ before.works_room;
    }
