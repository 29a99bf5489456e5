use Rattle.std.proofs.Common.{◌<◌, ◌∙◌, arith, refl, subst}
use Rattle.bw_tree_c.specs.Closing.{RunsNothing}
use Rattle.bw_tree_c.specs.Shutting.{IsInside}
use Rattle.bw_tree_c.specs.declared.handle.slots.Inside.TheVariants as inside
use Rattle.bw_tree_c.proofs.Shut.{can_close, can_leave, close, here_inside, leave}
use Rattle.bw_tree_c.proofs.handle.shared.Shared.drop_all.Goals as goal

pub closed-requires-clause-table : goal.closed-requires-clause-table
closed-requires-clause-table c = c.requires.closing.3.table

pub closed-requires-clause-can : goal.closed-requires-clause-can
closed-requires-clause-can c = can_close c.args.self.now c.requires.closing.0 c.requires.closing.1 c.requires.closing.2 c.args.hand.now c.args.hand.now refl c.requires.closing.3

pub loop-slot-init : goal.loop-slot-init
loop-slot-init c = λ since may last mid. close c.args.self.now since may last c.args.hand.now c.closed.new.hand c.closed.ensures.same mid c.closed.ensures.closed

pub exchange-requires : goal.exchange-requires
exchange-requires c =
    let mid = c.loop-slot.invariant c.requires.closing.0 c.requires.closing.1 c.requires.closing.2 c.requires.closing.3 in
    let below : c.loop-slot.slot < c.args.self.now.limits.actors = (let test = c.loop-slot-test.true in let end = c.last-slot-end.ensures in omega (arith, test, end)) in (
      mid.table,
      here_inside c.args.self.now c.requires.closing.0 c.requires.closing.1 c.loop-slot.slot 1 RunsNothing c.requires.closing.2 c.loop-slot.hand
          (let count = c.args.self.now.own.count in omega (arith, count, below)) mid,
    )

pub left-requires-clause-table : goal.left-requires-clause-table
left-requires-clause-table c = c.exchange.ensures.0 ∙ (c.loop-slot.invariant c.requires.closing.0 c.requires.closing.1 c.requires.closing.2 c.requires.closing.3).table

pub left-requires-clause-word : goal.left-requires-clause-word
left-requires-clause-word c = let words = c.args.self.now.words in let count = c.args.self.now.own.count in let test = c.loop-slot-test.true in let end = c.last-slot-end.ensures in
    omega (arith, words, count, test, end)

pub left-requires-clause-there : goal.left-requires-clause-there
left-requires-clause-there c = let count = c.args.self.now.own.count in let test = c.loop-slot-test.true in let end = c.last-slot-end.ensures in omega (arith, count, test, end)

pub left-requires-clause-can : goal.left-requires-clause-can
left-requires-clause-can c =
    let below : c.loop-slot.slot < c.args.self.now.limits.actors = (let test = c.loop-slot-test.true in let end = c.last-slot-end.ensures in omega (arith, test, end)) in
    can_leave c.args.self.now c.requires.closing.0 c.requires.closing.1 c.requires.closing.2 c.loop-slot.hand c.loop-slot.hand refl c.loop-slot.slot below
    (c.loop-slot.invariant c.requires.closing.0 c.requires.closing.1 c.requires.closing.2 c.requires.closing.3) c.exchange.new.seat c.exchange.ensures.0 inside.Nothing c.exchange.ensures.3

pub loop-slot-preserved : goal.loop-slot-preserved
loop-slot-preserved c = λ since may last mid.
    let below : c.loop-slot.slot < c.args.self.now.limits.actors = (let test = c.loop-slot-test.true in let end = c.last-slot-end.ensures in omega (arith, test, end)) in
    leave c.args.self.now since may last c.loop-slot.hand c.left.new.hand (c.left.ensures.same ∙ c.exchange.ensures.0) c.loop-slot.slot below
    (c.loop-slot.invariant since may last mid) c.exchange.new.seat c.exchange.ensures.0 inside.Nothing c.exchange.ensures.3 c.left.ensures.same c.left.ensures.left

pub returns : goal.returns
returns c = record {
  all = λ since may last mid. subst (λ k. IsInside c.args.self.now since may k 1 RunsNothing last c.loop-slot.hand)
      (let test = c.loop-slot-test.false in let most = c.loop-slot.auto.slot-end in let end = c.last-slot-end.ensures in omega (arith, test, most, end))
      (c.loop-slot.invariant since may last mid);
}
