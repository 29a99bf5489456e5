use Rattle.workers.proofs.Words.{Worker, all_here, all_yielded, ap, arith, flat_map, length, length-append, map, one_yielded, vec_capacity, vec_len, ℕ, [], ◌∙◌}
use Rattle.workers.proofs.Words.{◌∷◌, ◌≤◌}
use Rattle.workers.proofs.Named.{done_by}
use Rattle.workers.proofs.Parting.{few_more, has_room, results_more, seat_of, seats_more}
use Rattle.workers.proofs.room.parted.Goals as goal

abbrev IsFew : {A : Type 0} → ℕ → Worker A → Type 0
IsFew limit worker = vec_len worker.done ≤ limit

pub loop-worker-init : goal.loop-worker-init
loop-worker-init g c =
    let none = c.args.results.ok.0 ∙ ap length c.requires.results in record {
      seats = c.requires.seats;
      count = c.args.seats.ok.0 ∙ ap length c.requires.seats;
      results = c.requires.results;
      few = omega (arith, none);
      seats_room = c.requires.seats_room;
      results_room = c.requires.results_room;
    }

pub loop-worker-preserved : goal.loop-worker-preserved
loop-worker-preserved g c =
    let before = c.loop-worker.invariant in
    let ones = c.loop-worker.yielded in
    let worker = c.in-Some.worker in
    let parts = c.into_parts-seat in
    let yielded = length-append ones (worker ∷ []) in
    let longer = c.push_reserved.ensures.len in
    let count = before.count in
    let made = c.into_iter-worker-iterator.ensures.into_iter_gives in
    let turn = one_yielded c.args.workers c.into_iter-worker-iterator.result c.loop-worker.worker-iterator c.next.new.self c.loop-worker.yielded
    c.in-Some.worker c.next.result made.0 made.1 c.loop-worker.yielded_by c.in-Some.is c.next.ensures.steps in
    let few = all_here (IsFew c.args.limit) c.args.workers.items ones worker turn c.requires.few in
    let room = before.results_room in
    let kept = c.append.ensures.capacity in record {
      seats = seats_more c.loop-worker.seats.items c.push_reserved.new.self.items ones parts.result.0 worker c.push_reserved.ensures.items parts.ensures.seat before.seats;
      count = omega (arith, longer, yielded, count);
      results = results_more c.loop-worker.results.items c.append.new.self.items ones parts.result.1 worker c.in-Ok.ensures.items parts.ensures.done before.results;
      few = few_more (vec_len c.loop-worker.results) (vec_len c.append.new.self) c.args.limit (length ones) _ parts.result.1 worker c.in-Ok.ensures.len parts.ensures.done few before.few yielded;
      seats_room = rw c.push_reserved.ensures.capacity before.seats_room;
      results_room = omega (arith, room, kept);
    }

pub push_reserved-requires : goal.push_reserved-requires
push_reserved-requires g c =
    let before = c.loop-worker.invariant in
    let made = c.into_iter-worker-iterator.ensures.into_iter_gives in
    let turn = one_yielded c.args.workers c.into_iter-worker-iterator.result c.loop-worker.worker-iterator c.next.new.self c.loop-worker.yielded
    c.in-Some.worker c.next.result made.0 made.1 c.loop-worker.yielded_by c.in-Some.is c.next.ensures.steps in
    let count = before.count in
    let below = turn.0 in
    let room = before.seats_room in omega (arith, count, below, room)

pub returns : goal.returns
returns g c =
    let made = c.into_iter-worker-iterator.ensures.into_iter_gives in
    let all = all_yielded c.args.workers c.into_iter-worker-iterator.result c.loop-worker.worker-iterator c.next.new.self c.loop-worker.yielded c.next.result
    made.0 made.1 c.loop-worker.yielded_by c.in-None.is c.next.ensures.steps in record {
      results = c.loop-worker.invariant.results ∙ ap (flat_map done_by) all;
      seats = c.loop-worker.invariant.seats ∙ ap (map seat_of) all;
    }

pub unreachable-requires : goal.unreachable-requires
unreachable-requires g c =
    let before = c.loop-worker.invariant in
    let ones = c.loop-worker.yielded in
    let worker = c.in-Some.worker in
    let parts = c.into_parts-seat in
    let made = c.into_iter-worker-iterator.ensures.into_iter_gives in
    let turn = one_yielded c.args.workers c.into_iter-worker-iterator.result c.loop-worker.worker-iterator c.next.new.self c.loop-worker.yielded
    c.in-Some.worker c.next.result made.0 made.1 c.loop-worker.yielded_by c.in-Some.is c.next.ensures.steps in
    let few = all_here (IsFew c.args.limit) c.args.workers.items ones worker turn c.requires.few in
    let below = turn.0 in
    let all = c.args.workers.ok.0 in
    has_room (vec_len c.loop-worker.results) (vec_capacity c.loop-worker.results) c.args.limit (length ones) (vec_len c.args.workers) parts.result.1 worker
    parts.ensures.done few before.few (omega (arith, below, all)) before.results_room c.in_default.ensures.full
