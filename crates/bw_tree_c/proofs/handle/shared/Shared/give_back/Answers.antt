use Rattle.std.proofs.Common.{arith, refl, subst}
use Rattle.bw_tree_c.specs.Closing.{LooksOn}
use Rattle.bw_tree_c.specs.Shutting.{IsInside}
use Rattle.bw_tree_c.proofs.Shut.{can_give, gave}
use Rattle.bw_tree_c.proofs.handle.shared.Shared.give_back.Goals as goal

pub loop-slot-init : goal.loop-slot-init
loop-slot-init c = λ since may last mid. mid

pub ended-requires-clause-table : goal.ended-requires-clause-table
ended-requires-clause-table c = (c.loop-slot.invariant c.requires.closing.0 c.requires.closing.1 c.requires.closing.2 c.requires.closing.3).table

pub ended-requires-clause-word : goal.ended-requires-clause-word
ended-requires-clause-word c = let words = c.args.self.now.words in let count = c.args.self.now.own.count in let test = c.loop-slot-test.true in let end = c.last-slot-end.ensures in
    omega (arith, words, count, test, end)

pub ended-requires-clause-there : goal.ended-requires-clause-there
ended-requires-clause-there c = let count = c.args.self.now.own.count in let test = c.loop-slot-test.true in let end = c.last-slot-end.ensures in omega (arith, count, test, end)

pub ended-requires-clause-can : goal.ended-requires-clause-can
ended-requires-clause-can c = can_give c.args.self.now c.requires.closing.0 c.requires.closing.1 c.requires.closing.2 c.loop-slot.slot
    (let test = c.loop-slot-test.true in let end = c.last-slot-end.ensures in omega (arith, test, end)) c.loop-slot.hand c.loop-slot.hand refl
    (c.loop-slot.invariant c.requires.closing.0 c.requires.closing.1 c.requires.closing.2 c.requires.closing.3)

pub loop-slot-preserved : goal.loop-slot-preserved
loop-slot-preserved c = λ since may last mid. (gave c.args.self.now since may last c.loop-slot.slot
    (let test = c.loop-slot-test.true in let end = c.last-slot-end.ensures in omega (arith, test, end)) c.loop-slot.hand c.ended.new.hand c.ended.ensures.same
    (c.loop-slot.invariant since may last mid) c.ended.ensures.ended).0

pub returns : goal.returns
returns c = record {
  back = λ since may last mid. subst (λ k. IsInside c.args.self.now since may k 0 LooksOn last c.loop-slot.hand)
      (let test = c.loop-slot-test.false in let most = c.loop-slot.auto.slot-end in let end = c.last-slot-end.ensures in omega (arith, test, most, end))
      (c.loop-slot.invariant since may last mid);
}
