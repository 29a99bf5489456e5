use Rattle.workers.proofs.Words.{All, All-nil, All-push, HasRoom, Worker, all_yielded, ap, arith, length, length-append, map, map-append, one_yielded, subst}
use Rattle.workers.proofs.Words.{sym, [], ◌++◌, ◌∙◌, ◌∷◌}
use Rattle.std.proofs.lemmas.List.Elements.{All-pop}
use Rattle.workers.proofs.Parting.{seat_of}
use Rattle.workers.proofs.room.seated.Goals as goal

pub loop-seat-init : goal.loop-seat-init
loop-seat-init g c =
    let none = c.args.workers.ok.0 ∙ ap length c.requires.empty in
    let lists = c.requires.lists in record {
      lists = omega (arith, lists);
      each = c.requires.each;
      seats = ap (map seat_of) c.requires.empty;
      room = subst (All (λ w. HasRoom c.args.limit w.done)) (sym c.requires.empty) (All-nil (λ w. HasRoom c.args.limit w.done));
      count = none;
      capacity = c.requires.room;
    }

pub loop-seat-preserved : goal.loop-seat-preserved
loop-seat-preserved g c =
    let before = c.loop-seat.invariant in
    let worker : Worker _ = record { seat = c.in-Some.seat; done = c.in-Some-pop.done } in
    let popped = All-pop (HasRoom c.args.limit) c.loop-seat.lists.items c.pop.new.self.items c.pop.result c.pop.ensures.items before.each in
    let given : HasRoom c.args.limit c.in-Some-pop.done = rw c.in-Some-pop.is at popped.1 in
    let yielded = length-append c.loop-seat.yielded (c.in-Some.seat ∷ []) in
    let fewer = c.in-Some-pop.ensures.len in
    let longer = c.push_reserved.ensures.len in
    let lists = before.lists in
    let count = before.count in record {
      lists = omega (arith, yielded, fewer, lists);
      each = popped.0;
      seats = ap (map seat_of) c.push_reserved.ensures.items ∙ map-append seat_of c.loop-seat.workers.items (worker ∷ []) ∙ ap (λ z. z ++ c.in-Some.seat ∷ []) before.seats;
      room = rw c.push_reserved.ensures.items (All-push (λ w. HasRoom c.args.limit w.done) c.loop-seat.workers.items worker before.room given);
      count = omega (arith, longer, yielded, count);
      capacity = rw c.push_reserved.ensures.capacity before.capacity;
    }

pub unreachable-requires : goal.unreachable-requires
unreachable-requires g c =
    let before = c.loop-seat.invariant in
    let made = c.into_iter-seat-iterator.ensures.into_iter_gives in
    let turn = one_yielded c.args.seats c.into_iter-seat-iterator.result c.loop-seat.seat-iterator c.next.new.self c.loop-seat.yielded c.in-Some.seat
    c.next.result made.0 made.1 c.loop-seat.yielded_by c.in-Some.is c.next.ensures.steps in
    let lists = before.lists in
    let below = turn.0 in
    let some = c.in_default.ensures.variant.1 (omega (arith, lists, below)) in cc

pub returns-clause-seats : goal.returns-clause-seats
returns-clause-seats g c =
    let made = c.into_iter-seat-iterator.ensures.into_iter_gives in
    let all = all_yielded c.args.seats c.into_iter-seat-iterator.result c.loop-seat.seat-iterator c.next.new.self c.loop-seat.yielded c.next.result made.0
    made.1 c.loop-seat.yielded_by c.in-None.is c.next.ensures.steps in
    c.loop-seat.invariant.seats ∙ all
