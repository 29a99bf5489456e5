use Rattle.std.proofs.Common.{◌<◌, ◌∙◌, [], ap, arith, inr}
use Rattle.bw_tree_c.specs.Slots.{seat_in}
use Rattle.bw_tree_c.proofs.Calling.{away, not_seat, taken, there, written_may}
use Rattle.bw_tree_c.proofs.taking.take.Goals.{then-found-eq-GONE, else-found-eq-GONE}
use Rattle.bw_tree_c.proofs.taking.take.Goals as goal

pub returns-then-found-ne-HOME-clause-refused : goal.returns-then-found-ne-HOME-clause-refused
returns-then-found-ne-HOME-clause-refused c =
    let below : c.args.seat < c.args.shared.now.limits.actors = let a = c.if-from-shared.false in let b = c.from.ensures in omega (arith, a, b) in
    inr (away c.args.shared.now c.args.since c.requires c.seen_by-hand.result c.begun-found.new.hand c.seen_by-hand.ensures c.args.seat below c.begun-found.ensures.same
    c.begun-found.result c.if-found-ne-HOME.true c.begun-found.ensures.tried c.of.result c.of.ensures.table c.of.ensures.view
    (λ one. elim c.if-found-eq-GONE.branch [
      | then-found-eq-GONE w ↦ absurd (let two = w.if-found-eq-GONE.true in omega (arith, one, two))
      | else-found-eq-GONE w ↦ c.of.ensures.status ∙ w.of-is
    ])
    (λ two. elim c.if-found-eq-GONE.branch [
      | then-found-eq-GONE w ↦ c.of.ensures.status ∙ w.of-is
      | else-found-eq-GONE w ↦ absurd (w.if-found-eq-GONE.false two)
    ]))

pub unreachable-requires : goal.unreachable-requires
unreachable-requires c =
    let below : c.args.seat < c.args.shared.now.limits.actors = let a = c.if-from-shared.false in let b = c.from.ensures in omega (arith, a, b) in
    let it = there c.args.shared.now c.args.since c.requires c.seen_by-hand.result c.begun-found.new.hand c.seen_by-hand.ensures c.args.seat below c.begun-found.ensures.same
    c.begun-found.result c.if-found-ne-HOME.false c.begun-found.ensures.tried c.exchange.result c.exchange.ensures.2 in
    not_seat c.exchange.result it.0 c.in_default.not-Seat it.1

pub returns-clause-taken : goal.returns-clause-taken
returns-clause-taken c =
    let below : c.args.seat < c.args.shared.now.limits.actors = let a = c.if-from-shared.false in let b = c.from.ensures in omega (arith, a, b) in
    taken c.args.shared.now c.args.since c.requires c.seen_by-hand.result c.begun-found.new.hand c.seen_by-hand.ensures c.args.seat below c.begun-found.ensures.same
    c.begun-found.result c.if-found-ne-HOME.false c.begun-found.ensures.tried c.exchange.result c.exchange.ensures.2
    c.exchange.new.seat c.exchange.ensures.0 c.exchange.ensures.3 c.in-Seat.place.value.seat (ap seat_in c.in-Seat.is)

pub returns-then-found-ne-HOME-clause-may : goal.returns-then-found-ne-HOME-clause-may
returns-then-found-ne-HOME-clause-may c =
    let below : c.args.seat < c.args.shared.now.limits.actors = let a = c.if-from-shared.false in let b = c.from.ensures in omega (arith, a, b) in
    let it = away c.args.shared.now c.args.since c.requires c.seen_by-hand.result c.begun-found.new.hand c.seen_by-hand.ensures c.args.seat below c.begun-found.ensures.same
    c.begun-found.result c.if-found-ne-HOME.true c.begun-found.ensures.tried c.of.result c.of.ensures.table c.of.ensures.view
    (λ one. elim c.if-found-eq-GONE.branch [
      | then-found-eq-GONE w ↦ absurd (let two = w.if-found-eq-GONE.true in omega (arith, one, two))
      | else-found-eq-GONE w ↦ c.of.ensures.status ∙ w.of-is
    ])
    (λ two. elim c.if-found-eq-GONE.branch [
      | then-found-eq-GONE w ↦ c.of.ensures.status ∙ w.of-is
      | else-found-eq-GONE w ↦ absurd (w.if-found-eq-GONE.false two)
    ]) in
    written_may c.args.shared.now it.author [] c.args.since c.of.result.receipt it.written
