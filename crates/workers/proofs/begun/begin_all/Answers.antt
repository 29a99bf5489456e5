use Rattle.workers.proofs.Words.{HasRoom, IsSeatOf, None, Tree, Worker, all_here, all_yielded, arith, one_yielded, unfinished_command, ℕ, ◌∙◌, ◌≡◌}
use Rattle.workers.proofs.Beginning.{begun_more, none_begun}
use Rattle.workers.proofs.begun.begin_all.Goals as goal

abbrev IsOwn : {A : Type 0} → Tree → Worker A → Type 0
IsOwn tree worker = IsSeatOf tree worker.seat

abbrev IsIdle : {A : Type 0} → Worker A → Type 0
IsIdle worker = unfinished_command worker.seat ≡ None

abbrev HasSpace : {A : Type 0} → ℕ → Worker A → Type 0
HasSpace limit worker = HasRoom limit worker.done

pub loop-worker-init : goal.loop-worker-init
loop-worker-init g c = record {
  begun = none_begun c.args.shared.now.limit c.args.shared.now.may_run.id c.args.begun.items c.requires.empty;
  space = c.requires.space;
}

pub loop-worker-preserved : goal.loop-worker-preserved
loop-worker-preserved g c =
    let before = c.loop-worker.invariant in record {
      begun =
          begun_more c.args.shared.now.limit c.args.shared.now.may_run.id c.len-place.result c.loop-worker.yielded c.loop-worker.begun.items
          c.push_reserved.new.self.items c.in-Some.worker c.begin.result before.begun (c.len-place.ensures ∙ c.loop-worker.begun.ok.0)
          c.push_reserved.ensures.items c.begin.ensures;
      space = rw c.push_reserved.ensures.capacity before.space;
    }

pub begin-requires-clause-own : goal.begin-requires-clause-own
begin-requires-clause-own g c κs within =
    let made = c.into_iter-worker-iterator.ensures.into_iter_gives in
    let turn = one_yielded c.args.workers c.into_iter-worker-iterator.result c.loop-worker.worker-iterator c.next.new.self c.loop-worker.yielded
    c.in-Some.worker c.next.result made.0 made.1 c.loop-worker.yielded_by c.in-Some.is c.next.ensures.steps in
    all_here (IsOwn c.args.shared.now.tree.now) c.args.workers.items c.loop-worker.yielded c.in-Some.worker turn c.requires.own

pub begin-requires-clause-idle : goal.begin-requires-clause-idle
begin-requires-clause-idle g c κs within =
    let made = c.into_iter-worker-iterator.ensures.into_iter_gives in
    let turn = one_yielded c.args.workers c.into_iter-worker-iterator.result c.loop-worker.worker-iterator c.next.new.self c.loop-worker.yielded
    c.in-Some.worker c.next.result made.0 made.1 c.loop-worker.yielded_by c.in-Some.is c.next.ensures.steps in
    all_here IsIdle c.args.workers.items c.loop-worker.yielded c.in-Some.worker turn c.requires.idle

pub begin-requires-clause-room : goal.begin-requires-clause-room
begin-requires-clause-room g c κs within =
    let made = c.into_iter-worker-iterator.ensures.into_iter_gives in
    let turn = one_yielded c.args.workers c.into_iter-worker-iterator.result c.loop-worker.worker-iterator c.next.new.self c.loop-worker.yielded
    c.in-Some.worker c.next.result made.0 made.1 c.loop-worker.yielded_by c.in-Some.is c.next.ensures.steps in
    all_here (HasSpace c.args.shared.now.limit) c.args.workers.items c.loop-worker.yielded c.in-Some.worker turn c.requires.room

pub push_reserved-requires : goal.push_reserved-requires
push_reserved-requires g c =
    let made = c.into_iter-worker-iterator.ensures.into_iter_gives in
    let turn = one_yielded c.args.workers c.into_iter-worker-iterator.result c.loop-worker.worker-iterator c.next.new.self c.loop-worker.yielded
    c.in-Some.worker c.next.result made.0 made.1 c.loop-worker.yielded_by c.in-Some.is c.next.ensures.steps in
    let count = c.loop-worker.invariant.begun.count in
    let long = c.loop-worker.begun.ok.0 in
    let all = c.args.workers.ok.0 in
    let below = turn.0 in
    let space = c.loop-worker.invariant.space in omega (arith, count, long, all, below, space)

pub returns : goal.returns
returns g c =
    let made = c.into_iter-worker-iterator.ensures.into_iter_gives in
    let all = all_yielded c.args.workers c.into_iter-worker-iterator.result c.loop-worker.worker-iterator c.next.new.self c.loop-worker.yielded c.next.result
    made.0 made.1 c.loop-worker.yielded_by c.in-None.is c.next.ensures.steps in
    rw (← all) c.loop-worker.invariant.begun
