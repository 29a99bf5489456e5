use Rattle.std.proofs.Common.{◌*◌}
use Rattle.std.specs.Vec.{vec_capacity}
use Rattle.workers.proofs.Words.{All-weaker, AreIdle, AreSeatsOf, HasRoom, IsSeatOf, None, ap, arith, flat_map, length, length-map, map, subst, sym}
use Rattle.workers.proofs.Words.{unfinished_command, vec_len, ◌∙◌, ◌≡◌, ◌≤◌}
use Rattle.workers.proofs.Named.{done_by}
use Rattle.workers.proofs.Parting.{all_few, all_same, all_seats, have_worked, seat_of, worked_as}
use Rattle.workers.proofs.room.Room.worked.Goals as goal

pub in_threads-may_run-requires-clause-own : goal.in_threads-may_run-requires-clause-own
in_threads-may_run-requires-clause-own g c κs within =
    all_seats (IsSeatOf c.args.shared.now.tree.now) c.seated-workers.result.items (subst (AreSeatsOf c.args.shared.now.tree.now) (sym c.seated-workers.ensures.seats) c.requires.own)

pub in_threads-may_run-requires-clause-idle : goal.in_threads-may_run-requires-clause-idle
in_threads-may_run-requires-clause-idle g c κs within =
    all_seats (λ seat. unfinished_command seat ≡ None) c.seated-workers.result.items (subst AreIdle (sym c.seated-workers.ensures.seats) c.requires.idle)

pub in_threads-may_run-requires-clause-space : goal.in_threads-may_run-requires-clause-space
in_threads-may_run-requires-clause-space g c κs within =
    let many = length-map c.seated-workers.result.items seat_of in
    let same = ap length c.seated-workers.ensures.seats in
    let long = c.seated-workers.result.ok.0 in
    let seats = c.args.seats.ok.0 in
    let room = c.requires.room.back_room in omega (arith, many, same, long, seats, room)

pub parted-done-requires-clause-seats_room : goal.parted-done-requires-clause-seats_room
parted-done-requires-clause-seats_room g c =
    let many = length-map c.seated-workers.result.items seat_of in
    let same = ap length c.seated-workers.ensures.seats in
    let seats = c.args.seats.ok.0 in
    let back = c.in_threads-may_run.ensures.count in
    let long = c.in_threads-may_run.result.1.ok.0 in
    let room = c.requires.room.seats_room in omega (arith, many, same, seats, back, long, room)

pub parted-done-requires-clause-results_room : goal.parted-done-requires-clause-results_room
parted-done-requires-clause-results_room g c =
    let many = length-map c.seated-workers.result.items seat_of in
    let same = ap length c.seated-workers.ensures.seats in
    let seats = c.args.seats.ok.0 in
    let back = c.in_threads-may_run.ensures.count in
    let long = c.in_threads-may_run.result.1.ok.0 in
    subst (λ n. n * c.args.shared.now.limit ≤ vec_capacity c.args.self.results) (omega (arith, many, same, seats, back, long)) c.requires.room.results_room

pub parted-done-requires-clause-few : goal.parted-done-requires-clause-few
parted-done-requires-clause-few g c =
    all_few c.in_threads-may_run.result.0 c.args.shared.now.limit c.seated-workers.result.items c.in_threads-may_run.result.1.items
    (All-weaker (λ worker. HasRoom c.args.shared.now.limit worker.done) (λ worker. vec_len worker.done ≤ c.args.shared.now.limit)
    (λ worker room. let none = worker.done.ok.0 ∙ ap length room.0 in omega (arith, none)) c.seated-workers.result.items c.seated-workers.ensures.room)
    c.in_threads-may_run.ensures

pub returns-then-may_run-clause-worked : goal.returns-then-may_run-clause-worked
returns-then-may_run-clause-worked g c =
    let olds = c.seated-workers.result.items in
    let news = c.in_threads-may_run.result.1.items in
    worked_as (flat_map done_by news) c.parted-done.result.0.items (map seat_of olds) c.args.seats.items (map seat_of news) c.parted-done.result.1.items
    (have_worked c.in_threads-may_run.result.0 c.args.shared.now.limit olds news c.in_threads-may_run.ensures c.if-may_run.true)
    c.parted-done.ensures.results (sym c.seated-workers.ensures.seats) c.parted-done.ensures.seats

pub returns-else-may_run-clause-left : goal.returns-else-may_run-clause-left
returns-else-may_run-clause-left g c =
    c.parted-done.ensures.seats
    ∙ ap (map seat_of)
    (all_same c.in_threads-may_run.result.0 c.args.shared.now.limit c.seated-workers.result.items c.in_threads-may_run.result.1.items c.in_threads-may_run.ensures c.if-may_run.false)
    ∙ c.seated-workers.ensures.seats
