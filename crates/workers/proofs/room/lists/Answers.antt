use Rattle.workers.proofs.Words.{All, All-nil, All-push, HasRoom, arith, subst, sym}
use Rattle.workers.proofs.room.lists.Goals as goal

pub loop-init : goal.loop-init
loop-init g c = record { count = c.new-lists.ensures.len; each = subst (All (HasRoom c.args.limit)) (sym c.new-lists.ensures.items) (All-nil (HasRoom c.args.limit)) }

pub loop-preserved : goal.loop-preserved
loop-preserved g c =
    let before = c.loop.invariant.count in
    let longer = c.in_ok-push.ensures.len in record {
      count = omega (arith, before, longer);
      each =
          rw c.in_ok-push.ensures.items
          (All-push (HasRoom c.args.limit) c.loop.lists.items c.in_ok-with_capacity.field-0 c.loop.invariant.each (c.in_ok-with_capacity.ensures.items, c.in_ok-with_capacity.ensures.capacity));
    }
