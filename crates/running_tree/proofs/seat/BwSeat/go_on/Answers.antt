use Rattle.std.proofs.Common.{None, arith, refl, subst}
use Rattle.running_tree.specs.Calls.{Advances}
use Rattle.running_tree.specs.Told.{reply_if}
use Rattle.running_tree.proofs.Owning.{one_same}
use Rattle.running_tree.proofs.Going.{busy_still, finished, same_on, same_self, still_at, still_on, still_self}
use Rattle.running_tree.proofs.seat.BwSeat.go_on.Goals as goal

pub loop-init : goal.loop-init
loop-init g c = record { same = same_self c.args.self.now; still = still_self c.args.self.now }

pub advance-requires-clause-own : goal.advance-requires-clause-own
advance-requires-clause-own g c = one_same c.args.tree.now c.args.self.now c.loop.self c.loop.invariant.same c.requires.own

pub advance-requires-clause-busy : goal.advance-requires-clause-busy
advance-requires-clause-busy g c = busy_still c.args.self.now c.loop.self c.loop.counter c.loop.invariant.still c.requires.busy

pub returns-then-advance-clause-same : goal.returns-then-advance-clause-same
returns-then-advance-clause-same g c = same_on _ _ _ c.loop.invariant.same c.advance.ensures.same

pub returns-then-advance-clause-goes : goal.returns-then-advance-clause-goes
returns-then-advance-clause-goes g c =
    finished c.args.self.now c.loop.self c.loop.counter c.loop.invariant.same c.loop.invariant.still c.advance.new.self c.advance.ensures.same c.args.budget c.advance.new.reply c.loop-test.true
    (subst (λ done. Advances c.loop.self (reply_if done c.advance.new.reply) c.advance.new.self) c.if-advance.true c.advance.ensures.advances)

pub loop-preserved : goal.loop-preserved
loop-preserved g c = record {
  same = same_on _ _ _ c.loop.invariant.same c.advance.ensures.same;
  still = still_on c.args.self.now c.loop.self c.loop.counter c.loop.invariant.same c.loop.invariant.still c.advance.new.self c.advance.ensures.same None refl
      (subst (λ done. Advances c.loop.self (reply_if done c.advance.new.reply) c.advance.new.self) c.if-advance.false c.advance.ensures.advances);
}

pub returns-clause-same : goal.returns-clause-same
returns-clause-same g c = c.loop.invariant.same

pub returns-clause-goes : goal.returns-clause-goes
returns-clause-goes g c = still_at c.args.self.now c.loop.self c.loop.counter c.args.budget (let past = c.loop-test.false in let few = c.loop.auto.counter-end in omega arith) c.loop.invariant.still
