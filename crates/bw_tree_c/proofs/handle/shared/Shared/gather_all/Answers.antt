use Rattle.std.proofs.Common.{◌<◌, ◌+◌, ◌∙◌, ap, arith, refl, subst}
use Rattle.bw_tree_c.specs.Closing.{LooksOn, RunsNothing}
use Rattle.bw_tree_c.specs.Handles.{MayCall}
use Rattle.bw_tree_c.specs.Shutting.{IsInside}
use Rattle.bw_tree_c.specs.Slots.{seat_in}
use Rattle.bw_tree_c.specs.declared.handle.slots.Inside.{Inside}
use Rattle.bw_tree_c.specs.declared.handle.slots.Inside.TheVariants as inside
use Rattle.bw_tree_c.specs.declared.receipt.Receipt.{Receipt}
use Rattle.bw_tree_c.proofs.Calling.{not_seat}
use Rattle.bw_tree_c.proofs.Gathering.{all_gathered, idle_below, idle_closed, left_on, legal_in, none_gathered, one_gathered, some_there}
use Rattle.bw_tree_c.proofs.Shut.{can_close, can_leave, close, here_inside, leave}
use Rattle.bw_tree_c.proofs.handle.shared.Shared.gather_all.Goals as goal

pub closed-requires-clause-table : goal.closed-requires-clause-table
closed-requires-clause-table c = c.requires.closing.3.table

pub closed-requires-clause-can : goal.closed-requires-clause-can
closed-requires-clause-can c = can_close c.args.self.now c.requires.closing.0 c.requires.closing.1 c.requires.closing.2 c.args.hand.now c.args.hand.now refl c.requires.closing.3

pub loop-slot-init : goal.loop-slot-init
loop-slot-init c = record {
  inside = λ since may last mid. close c.args.self.now since may last c.args.hand.now c.closed.new.hand c.closed.ensures.same mid c.closed.ensures.closed;
  gathered = none_gathered c.args.self.now c.closed.new.hand c.args.whole.now c.requires.may.none
      (idle_closed c.args.self.now c.requires.closing.0 c.requires.closing.1 c.requires.closing.2 c.args.hand.now c.closed.new.hand c.requires.closing.3
      (close c.args.self.now c.requires.closing.0 c.requires.closing.1 c.requires.closing.2 c.args.hand.now c.closed.new.hand c.closed.ensures.same c.requires.closing.3 c.closed.ensures.closed)
      (ap (λ m. m.1) c.closed.ensures.closed.now)
      (idle_below c.args.self.now c.requires.closing.0 c.requires.closing.1 c.requires.closing.2 c.args.hand.now c.requires.closing.3 c.requires.idle));
}

pub unreachable-requires : goal.unreachable-requires
unreachable-requires c =
    let below : c.loop-slot.slot < c.args.self.now.limits.actors = (let test = c.loop-slot-test.true in let end = c.last-slot-end.ensures in omega (arith, test, end)) in
    let it = some_there c.args.self.now c.requires.closing.0 c.requires.closing.1 c.requires.closing.2 c.loop-slot.slot below c.loop-slot.hand
    (c.loop-slot.invariant.inside c.requires.closing.0 c.requires.closing.1 c.requires.closing.2 c.requires.closing.3) c.exchange.result c.exchange.ensures.2 in
    not_seat c.exchange.result it.0 c.in_default.not-Seat it.1

pub add-requires : goal.add-requires
add-requires c = record {
  room = let count = c.loop-slot.invariant.gathered.count in let capacity = c.loop-slot.invariant.gathered.capacity in let seats = c.requires.may.seats in
      let test = c.loop-slot-test.true in let end = c.last-slot-end.ensures in omega (arith, count, capacity, seats, test, end);
}

pub exchange-requires : goal.exchange-requires
exchange-requires c =
    let mid = c.loop-slot.invariant.inside c.requires.closing.0 c.requires.closing.1 c.requires.closing.2 c.requires.closing.3 in
    let below : c.loop-slot.slot < c.args.self.now.limits.actors = (let test = c.loop-slot-test.true in let end = c.last-slot-end.ensures in omega (arith, test, end)) in (
      mid.table,
      here_inside c.args.self.now c.requires.closing.0 c.requires.closing.1 c.loop-slot.slot 1 RunsNothing c.requires.closing.2 c.loop-slot.hand
          (let count = c.args.self.now.own.count in omega (arith, count, below)) mid,
    )

pub left-requires-clause-table : goal.left-requires-clause-table
left-requires-clause-table c = c.exchange.ensures.0 ∙ (c.loop-slot.invariant.inside c.requires.closing.0 c.requires.closing.1 c.requires.closing.2 c.requires.closing.3).table

pub left-requires-clause-word : goal.left-requires-clause-word
left-requires-clause-word c = let words = c.args.self.now.words in let count = c.args.self.now.own.count in let test = c.loop-slot-test.true in let end = c.last-slot-end.ensures in
    omega (arith, words, count, test, end)

pub left-requires-clause-there : goal.left-requires-clause-there
left-requires-clause-there c = let count = c.args.self.now.own.count in let test = c.loop-slot-test.true in let end = c.last-slot-end.ensures in omega (arith, count, test, end)

pub left-requires-clause-can : goal.left-requires-clause-can
left-requires-clause-can c =
    let below : c.loop-slot.slot < c.args.self.now.limits.actors = (let test = c.loop-slot-test.true in let end = c.last-slot-end.ensures in omega (arith, test, end)) in
    can_leave c.args.self.now c.requires.closing.0 c.requires.closing.1 c.requires.closing.2 c.loop-slot.hand c.loop-slot.hand refl c.loop-slot.slot below
    (c.loop-slot.invariant.inside c.requires.closing.0 c.requires.closing.1 c.requires.closing.2 c.requires.closing.3) c.exchange.new.seat c.exchange.ensures.0 inside.Nothing c.exchange.ensures.3

pub loop-slot-preserved : goal.loop-slot-preserved
loop-slot-preserved c =
    let below : c.loop-slot.slot < c.args.self.now.limits.actors = (let test = c.loop-slot-test.true in let end = c.last-slot-end.ensures in omega (arith, test, end)) in
    let leaves : (since : Receipt) (may : MayCall c.args.self.now since) (last : Inside) → IsInside c.args.self.now since may 0 0 LooksOn last c.args.hand.now
    → IsInside c.args.self.now since may (c.loop-slot.slot + 1) 1 RunsNothing last c.left.new.hand =
    λ since may last mid. leave c.args.self.now since may last c.loop-slot.hand c.left.new.hand (c.left.ensures.same ∙ c.exchange.ensures.0) c.loop-slot.slot below
    (c.loop-slot.invariant.inside since may last mid) c.exchange.new.seat c.exchange.ensures.0 inside.Nothing c.exchange.ensures.3 c.left.ensures.same c.left.ensures.left in record {
      inside = leaves;
      gathered = one_gathered c.args.self.now c.requires.closing.0 c.requires.closing.1 c.requires.closing.2 c.loop-slot.slot below c.loop-slot.hand
          (c.loop-slot.invariant.inside c.requires.closing.0 c.requires.closing.1 c.requires.closing.2 c.requires.closing.3) c.exchange.result c.exchange.ensures.2 c.left.new.hand
          (left_on c.exchange.new.seat c.left.new.hand c.loop-slot.hand inside.Nothing c.loop-slot.slot c.exchange.ensures.3 c.left.ensures.left)
          (legal_in c.args.self.now c.requires.closing.0 c.requires.closing.1 c.requires.closing.2 (c.loop-slot.slot + 1) 1 RunsNothing c.left.new.hand
          (leaves c.requires.closing.0 c.requires.closing.1 c.requires.closing.2 c.requires.closing.3))
          c.in-Seat.place.value.seat (ap seat_in c.in-Seat.is) c.args.whole.now c.loop-slot.whole c.add.new.self c.loop-slot.invariant.gathered
          c.add.ensures.seats c.add.ensures.capacity c.add.ensures.room c.add.ensures.tree;
    }

pub returns-clause-all : goal.returns-clause-all
returns-clause-all c = λ since may last mid. subst (λ k. IsInside c.args.self.now since may k 1 RunsNothing last c.loop-slot.hand)
    (let test = c.loop-slot-test.false in let most = c.loop-slot.auto.slot-end in let end = c.last-slot-end.ensures in omega (arith, test, most, end))
    (c.loop-slot.invariant.inside since may last mid)

pub returns-clause-gathered : goal.returns-clause-gathered
returns-clause-gathered c = all_gathered c.args.self.now c.loop-slot.slot c.loop-slot.hand c.args.whole.now c.loop-slot.whole c.loop-slot.invariant.gathered
    (let test = c.loop-slot-test.false in let most = c.loop-slot.auto.slot-end in let end = c.last-slot-end.ensures in omega (arith, test, most, end)) c.requires.may
    (legal_in c.args.self.now c.requires.closing.0 c.requires.closing.1 c.requires.closing.2 c.loop-slot.slot 1 RunsNothing c.loop-slot.hand
    (c.loop-slot.invariant.inside c.requires.closing.0 c.requires.closing.1 c.requires.closing.2 c.requires.closing.3))
