use Rattle.workers.proofs.Words.{Seat, ap, arith, sym, with_each_behind, ◌∙◌}
use Rattle.workers.proofs.Behind.{behind_none, behind_push}
use Rattle.workers.proofs.threads.parted.Goals as goal

pub loop-seat-preserved : goal.loop-seat-preserved
loop-seat-preserved g c =
    let before = c.loop-seat.invariant in
    let job : Seat × _ = (c.in-Some.seat, c.in-Some.work) in
    let jobs = c.pop.new.self.items in
    let fewer = c.in-Some.ensures.cases in
    let longer = c.push_reserved.ensures.len in
    let more = c.push_reserved-in-Some.ensures.len in
    let count = before.count in
    let works = before.all in record {
      seats =
          ap (λ z. with_each_behind (λ one. one.0) z jobs) c.push_reserved.ensures.items ∙ sym (behind_push (λ one. one.0) c.loop-seat.seats.items jobs job)
          ∙ ap (λ z. with_each_behind (λ one. one.0) c.loop-seat.seats.items z) (sym c.in-Some.ensures.items) ∙ before.seats;
      works =
          ap (λ z. with_each_behind (λ one. one.1) z jobs) c.push_reserved-in-Some.ensures.items
          ∙ sym (behind_push (λ one. one.1) c.loop-seat.works.items jobs job)
          ∙ ap (λ z. with_each_behind (λ one. one.1) c.loop-seat.works.items z) (sym c.in-Some.ensures.items) ∙ before.works;
      count = omega (arith, fewer, longer, count);
      all = omega (arith, fewer, more, works);
      seats_room = rw c.push_reserved.ensures.capacity before.seats_room;
      works_room = rw c.push_reserved-in-Some.ensures.capacity before.works_room;
    }

pub returns-clause-seats : goal.returns-clause-seats
returns-clause-seats g c =
    sym (behind_none (λ (one : Seat × _). one.0) c.loop-seat.seats.items c.loop-seat.jobs.items (sym c.loop-seat.jobs.ok.0 ∙ c.in_default.ensures.cases.0)) ∙ c.loop-seat.invariant.seats

pub returns-clause-works : goal.returns-clause-works
returns-clause-works g c =
    sym (behind_none (λ (one : Seat × _). one.1) c.loop-seat.works.items c.loop-seat.jobs.items (sym c.loop-seat.jobs.ok.0 ∙ c.in_default.ensures.cases.0)) ∙ c.loop-seat.invariant.works
