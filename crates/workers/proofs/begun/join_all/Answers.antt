use Rattle.workers.proofs.Words.{IsToldBy, all_here, all_yielded, arith, one_yielded}
use Rattle.workers.proofs.Beginning.{joined_more, none_joined}
use Rattle.workers.proofs.begun.join_all.Goals as goal

pub loop-thread-preserved : goal.loop-thread-preserved
loop-thread-preserved g c =
    let before = c.loop-thread.invariant in record {
      joined =
          joined_more c.args.told.now.value c.loop-thread.yielded c.loop-thread.workers.items c.push_reserved.new.self.items c.in-Some.thread c.join.result
          before.joined c.push_reserved.ensures.items c.join.ensures;
      space = rw c.push_reserved.ensures.capacity before.space;
    }

pub returns : goal.returns
returns g c =
    let made = c.into_iter-thread-iterator.ensures.into_iter_gives in
    let all = all_yielded c.args.begun c.into_iter-thread-iterator.result c.loop-thread.thread-iterator c.next.new.self c.loop-thread.yielded c.next.result
    made.0 made.1 c.loop-thread.yielded_by c.in-None.is c.next.ensures.steps in
    rw (← all) c.loop-thread.invariant.joined

pub loop-thread-init : goal.loop-thread-init
loop-thread-init g c = record {
  joined = none_joined c.args.told.now.value c.args.workers.items c.requires.empty;
  space = c.requires.space;
}

pub join-requires : goal.join-requires
join-requires g c =
    let made = c.into_iter-thread-iterator.ensures.into_iter_gives in
    let turn = one_yielded c.args.begun c.into_iter-thread-iterator.result c.loop-thread.thread-iterator c.next.new.self c.loop-thread.yielded c.in-Some.thread
    c.next.result made.0 made.1 c.loop-thread.yielded_by c.in-Some.is c.next.ensures.steps in
    all_here (IsToldBy c.args.told.now.of) c.args.begun.items c.loop-thread.yielded c.in-Some.thread turn c.requires.told

pub push_reserved-requires : goal.push_reserved-requires
push_reserved-requires g c =
    let made = c.into_iter-thread-iterator.ensures.into_iter_gives in
    let turn = one_yielded c.args.begun c.into_iter-thread-iterator.result c.loop-thread.thread-iterator c.next.new.self c.loop-thread.yielded c.in-Some.thread
    c.next.result made.0 made.1 c.loop-thread.yielded_by c.in-Some.is c.next.ensures.steps in
    let before = c.loop-thread.invariant in
    let count = before.joined.count in
    let long = c.loop-thread.workers.ok.0 in
    let all = c.args.begun.ok.0 in
    let below = turn.0 in
    let space = before.space in omega (arith, count, long, all, below, space)
