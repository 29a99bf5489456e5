use Rattle.workers.proofs.Beginning.{all_told, came_back}
use Rattle.workers.proofs.begun.in_scope.Goals as goal

pub join_all-back-requires-clause-told : goal.join_all-back-requires-clause-told
join_all-back-requires-clause-told g c =
    rw c.init-told.ensures (all_told c.args.shared.now.limit c.args.shared.now.may_run.id c.args.workers.items c.begin_all-begun.result.items c.begin_all-begun.ensures)

pub returns : goal.returns
returns g c =
    came_back c.init-told.result.value c.value.result.now c.args.shared.now.limit c.args.shared.now.may_run.id c.args.workers.items c.join_all-back.result.items
    c.begin_all-begun.result.items c.begin_all-begun.ensures c.join_all-back.ensures c.value.ensures
