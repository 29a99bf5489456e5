use Rattle.std.proofs.Common.{refl}
use Rattle.bw_tree_c.specs.declared.handle.slots.Inside.TheVariants as inside
use Rattle.bw_tree_c.proofs.Calling.{can_end, empty_now, finished, written_may}
use Rattle.bw_tree_c.proofs.taking.finish.Goals as goal

pub ended-requires-clause-can : goal.ended-requires-clause-can
ended-requires-clause-can c = can_end c.args.shared.now c.args.seat c.requires.can.since c.args.hand c.exchange.new.seat c.requires.can.first c.args.place.value.seat
    (inside.Seat c.args.place) refl c.requires.can.taken c.requires.can.later c.exchange.ensures.3

pub of-requires : goal.of-requires
of-requires c = record {
  empty = empty_now c.args.shared.now c.args.seat c.requires.can.since c.args.hand c.exchange.new.seat c.requires.can.first c.args.place.value.seat
      (inside.Seat c.args.place) refl c.requires.can.taken c.requires.can.later c.exchange.ensures.3 c.ended.new.hand c.ended.ensures.ended;
}

pub returns-clause-finished : goal.returns-clause-finished
returns-clause-finished c = λ since first taken later. finished c.args.shared.now c.args.seat since c.args.hand c.exchange.new.seat first c.args.place.value.seat
    (inside.Seat c.args.place) refl taken later c.exchange.ensures.3 c.ended.new.hand c.ended.ensures.ended c.exchange.ensures.0 c.ended.ensures.same
    c.of.result.receipt c.of.ensures.table c.of.ensures.view

pub returns-clause-may : goal.returns-clause-may
returns-clause-may c =
    let it = finished c.args.shared.now c.args.seat c.requires.can.since c.args.hand c.exchange.new.seat c.requires.can.first c.args.place.value.seat
    (inside.Seat c.args.place) refl c.requires.can.taken c.requires.can.later c.exchange.ensures.3 c.ended.new.hand c.ended.ensures.ended c.exchange.ensures.0 c.ended.ensures.same
    c.of.result.receipt c.of.ensures.table c.of.ensures.view in
    written_may c.args.shared.now it.author _ c.requires.can.since c.of.result.receipt it.written
