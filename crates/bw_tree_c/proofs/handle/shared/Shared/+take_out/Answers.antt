use Rattle.std.proofs.Common.{◌-◌, ap, arith, subst, sym}
use Rattle.bw_tree_c.specs.Closing.{LooksOn}
use Rattle.bw_tree_c.specs.Shutting.{AreAllIdle}
use Rattle.bw_tree_c.proofs.Shut.{writes_inside}
use Rattle.bw_tree_c.proofs.TakenOut.{busy_it, busy_same, gives_it, here_it, more_idle, seen_it, stopped_it, unfinished_it}
use Rattle.bw_tree_c.proofs.handle.shared.Shared.+take_out.Goals as goal

pub begun-requires-clause-table : goal.begun-requires-clause-table
begun-requires-clause-table t c = c.requires.closing.3.table

pub begun-requires-clause-may : goal.begun-requires-clause-may
begun-requires-clause-may t c = writes_inside c.args.self.now c.requires.closing.0 c.requires.closing.1 c.args.count 0 LooksOn c.requires.closing.2 c.args.hand.now c.requires.closing.3

pub begun-requires-clause-word : goal.begun-requires-clause-word
begun-requires-clause-word t c = let words = c.args.self.now.words in let count = c.args.self.now.own.count in let most = c.requires.count in let some = c.if-count-eq0.false in
    omega (arith, words, count, most, some)

pub begun-requires-clause-there : goal.begun-requires-clause-there
begun-requires-clause-there t c = let count = c.args.self.now.own.count in let most = c.requires.count in let some = c.if-count-eq0.false in omega (arith, count, most, some)

pub returns-then-begun-ne-HOME-clause-stopped : goal.returns-then-begun-ne-HOME-clause-stopped
returns-then-begun-ne-HOME-clause-stopped t c = λ since may last mid. busy_it c.args.self.now since may last c.args.count c.if-count-eq0.false c.requires.count c.args.hand.now c.begun.new.hand mid
    c.begun.ensures.same c.begun.result c.begun.ensures.tried c.if-begun-ne-HOME.true

pub is_fit-requires-clause-out : goal.is_fit-requires-clause-out
is_fit-requires-clause-out t c = here_it c.args.self.now c.requires.closing.0 c.requires.closing.1 c.requires.closing.2 c.args.count c.if-count-eq0.false
    c.requires.count c.args.hand.now c.begun.new.hand c.requires.closing.3
    c.begun.ensures.same c.begun.result c.begun.ensures.tried c.if-begun-ne-HOME.false

pub ended-requires-clause-can : goal.ended-requires-clause-can
ended-requires-clause-can t c = gives_it c.args.self.now c.requires.closing.0 c.requires.closing.1 c.requires.closing.2 c.args.count c.if-count-eq0.false
    c.requires.count c.is_fit.new.hand c.is_fit.new.hand
    (seen_it c.args.self.now c.requires.closing.0 c.requires.closing.1 c.requires.closing.2 c.args.count c.if-count-eq0.false c.requires.count c.args.hand.now
    c.begun.new.hand c.requires.closing.3 c.begun.ensures.same c.begun.result c.begun.ensures.tried
    c.if-begun-ne-HOME.false c.is_fit.new.hand c.is_fit.ensures.same c.is_fit.ensures.me)

pub returns-then-not-is_fit-clause-stopped : goal.returns-then-not-is_fit-clause-stopped
returns-then-not-is_fit-clause-stopped t c = λ since may last mid. unfinished_it c.args.self.now since may last c.args.count c.if-count-eq0.false c.requires.count c.is_fit.new.hand c.ended.new.hand
    (seen_it c.args.self.now since may last c.args.count c.if-count-eq0.false c.requires.count c.args.hand.now c.begun.new.hand mid c.begun.ensures.same c.begun.result c.begun.ensures.tried
    c.if-begun-ne-HOME.false c.is_fit.new.hand c.is_fit.ensures.same c.is_fit.ensures.me)
    c.ended.ensures.same c.ended.ensures.ended (busy_same (c.args.count - 1) c.begun.new.hand c.is_fit.new.hand c.is_fit.ensures.me (c.is_fit.ensures.unfit c.if-not-is_fit.true).1)

pub take_out-requires : goal.take_out-requires
take_out-requires t c = (
  (let some = c.if-count-eq0.false in let less = c.decreases in omega (arith, some, less)),
  (
    (
      c.requires.closing.0,
      c.requires.closing.1,
      c.requires.closing.2,
      (seen_it c.args.self.now c.requires.closing.0 c.requires.closing.1 c.requires.closing.2 c.args.count c.if-count-eq0.false c.requires.count c.args.hand.now
          c.begun.new.hand c.requires.closing.3 c.begun.ensures.same c.begun.result c.begun.ensures.tried
          c.if-begun-ne-HOME.false c.is_fit.new.hand c.is_fit.ensures.same c.is_fit.ensures.me),
    ),
    (let some = c.if-count-eq0.false in let most = c.requires.count in omega (arith, some, most)),
  ),
)

pub ended-requires-in-Err-clause-table : goal.ended-requires-in-Err-clause-table
ended-requires-in-Err-clause-table t c = (c.in-Err.ensures.stopped c.requires.closing.0 c.requires.closing.1 c.requires.closing.2
    (seen_it c.args.self.now c.requires.closing.0 c.requires.closing.1 c.requires.closing.2 c.args.count c.if-count-eq0.false c.requires.count c.args.hand.now
    c.begun.new.hand c.requires.closing.3 c.begun.ensures.same c.begun.result c.begun.ensures.tried
    c.if-begun-ne-HOME.false c.is_fit.new.hand c.is_fit.ensures.same c.is_fit.ensures.me)).mid.table

pub ended-requires-in-Err-clause-can : goal.ended-requires-in-Err-clause-can
ended-requires-in-Err-clause-can t c = gives_it c.args.self.now c.requires.closing.0 c.requires.closing.1 c.requires.closing.2 c.args.count c.if-count-eq0.false
    c.requires.count c.take_out.new.hand c.take_out.new.hand
    (c.in-Err.ensures.stopped c.requires.closing.0 c.requires.closing.1 c.requires.closing.2
    (seen_it c.args.self.now c.requires.closing.0 c.requires.closing.1 c.requires.closing.2 c.args.count c.if-count-eq0.false c.requires.count c.args.hand.now
    c.begun.new.hand c.requires.closing.3 c.begun.ensures.same c.begun.result c.begun.ensures.tried
    c.if-begun-ne-HOME.false c.is_fit.new.hand c.is_fit.ensures.same c.is_fit.ensures.me)).mid

pub returns-in-Ok-clause-ok : goal.returns-in-Ok-clause-ok
returns-in-Ok-clause-ok t c = λ since may last mid. c.in-Ok.ensures.ok since may last
    (seen_it c.args.self.now since may last c.args.count c.if-count-eq0.false c.requires.count c.args.hand.now c.begun.new.hand mid c.begun.ensures.same c.begun.result c.begun.ensures.tried
    c.if-begun-ne-HOME.false c.is_fit.new.hand c.is_fit.ensures.same c.is_fit.ensures.me)

pub returns-in-Err-clause-stopped : goal.returns-in-Err-clause-stopped
returns-in-Err-clause-stopped t c = λ since may last mid. stopped_it c.args.self.now since may last c.args.count c.if-count-eq0.false c.requires.count
    c.take_out.new.hand c.ended-in-Err.new.hand c.in-Err.refusal
    (c.in-Err.ensures.stopped since may last
    (seen_it c.args.self.now since may last c.args.count c.if-count-eq0.false c.requires.count c.args.hand.now c.begun.new.hand mid c.begun.ensures.same c.begun.result c.begun.ensures.tried
    c.if-begun-ne-HOME.false c.is_fit.new.hand c.is_fit.ensures.same c.is_fit.ensures.me))
    c.ended-in-Err.ensures.same c.ended-in-Err.ensures.ended

pub returns-in-Ok-clause-idle : goal.returns-in-Ok-clause-idle
returns-in-Ok-clause-idle t c = λ wanted all.
    let hit = c.begun.ensures.tried.hit c.if-begun-ne-HOME.false in
    let idle = more_idle (c.args.count - 1) c.args.hand.now c.begun.new.hand hit.0 (ap (λ m. m.1) hit.1.now) all (c.is_fit.ensures.fit c.if-not-is_fit.false wanted) in
    c.in-Ok.ensures.idle wanted (subst (λ m. AreAllIdle m.1) (sym c.is_fit.ensures.me) idle)
