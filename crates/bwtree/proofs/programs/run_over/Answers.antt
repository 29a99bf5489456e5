use Rattle.bwtree.proofs.programs.run_over.Goals as goal

pub returns-in-Script : goal.returns-in-Script
returns-in-Script g c = rw c.in-Script.is c.script.ensures

pub returns-in-Weave : goal.returns-in-Weave
returns-in-Weave g c = rw c.in-Weave.is c.weave.ensures

pub returns-in-Draw : goal.returns-in-Draw
returns-in-Draw g c = rw c.in-Draw.is c.draw.ensures

pub returns-in-Film : goal.returns-in-Film
returns-in-Film g c = rw c.in-Film.is c.film.ensures

pub returns-in-Race : goal.returns-in-Race
returns-in-Race g c = rw c.in-Race.is c.race.ensures
