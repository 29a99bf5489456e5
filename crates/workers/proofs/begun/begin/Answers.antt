use Rattle.workers.proofs.begun.begin.Goals as goal

pub spawn_scoped_with-requires-clause-keeps : goal.spawn_scoped_with-requires-clause-keeps
spawn_scoped_with-requires-clause-keeps g c κs within = λ r is. rw (c.of.ensures, c.of-2.ensures) is
