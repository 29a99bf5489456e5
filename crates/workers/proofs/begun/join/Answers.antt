use Rattle.workers.proofs.Beginning.{has_joined}
use Rattle.workers.proofs.begun.join.Goals as goal
use Rattle.workers.proofs.begun.join.Goals.{in-Standing, in-Back}

pub returns : goal.returns
returns g c = rw c.agreed.ensures.worker (has_joined c.args.told.now.value c.args.begun c.match-begun.back
    (elim c.match-begun.branch [
      | in-Standing w ↦ rw (w.in-Standing.is, w.back-is) w.join-back.ensures
      | in-Back w ↦ rw w.in-Back.is w.back-is
    ])
    c.agreed.ensures.value)
