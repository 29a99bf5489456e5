use Rattle.step_core.proofs.actor.go_on.Goals as goal

pub tell-requires-clause-knows : goal.tell-requires-clause-knows
tell-requires-clause-knows g c = let (limits, k, r, ready) = c.requires.knows in (limits, c.args.number, k, r, ready)

pub returns-clause-goes : goal.returns-clause-goes
returns-clause-goes g c = λ limits k r ready. c.tell.ensures.goes limits c.args.number k r ready
