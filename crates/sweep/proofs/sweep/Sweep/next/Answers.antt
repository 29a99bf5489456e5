use Rattle.sweep.proofs.Words.{◌<◌, true, false, IsSameSweep, IsSoundState, Sweep}
use Rattle.bw_model.specs.Answers.{answer_of}
use Rattle.sweep.specs.Bounded.{steps_left}
use Rattle.sweep.specs.Sweeps.{IsSoundSweep}
use Rattle.sweep.proofs.Moving.{follows}
use Rattle.sweep.proofs.Sound.{goes_on}
use Rattle.sweep.proofs.sweep.Sweep.next.Goals as goal

-- the sweep that goes on
abbrev next : (g : _) → goal.After-state-in-Some-1 g → Sweep
next g c = record { limits = c.self-2.inside.limits; actor = c.self-2.inside.actor; state = c.in-Some.state }

same : (g : _) (c : goal.After-state-in-Some-1 g) → IsSameSweep c.args.self.now (next g c)
same g c = let is = rw (← c.self-2.view_is) at c.move_on.ensures.same in record { limits = is.limits; actor = is.actor }

goes : (g : _) (c : goal.After-state-in-Some-1 g)
    → IsSoundState c.self-2.inside.limits c.in-Some.state × IsSoundSweep (next g c) c.move_on.new.limbo ×
    (steps_left c.args.self.now.limits c.in-Some.state < steps_left c.args.self.now.limits c.args.self.now.state)
goes g c =
    goes_on c.args.self.now (next g c) (answer_of c.args.told) c.args.limbo.now c.move_on.new.limbo c.has_each_once.ensures.rows c.has_each_once.ensures.pids
    (rw (← c.self.view_is) c.self.invariant.1) c.requires.sound (same g c) c.in-Some.ensures.moves

pub invariant_of-self : goal.invariant_of-self
invariant_of-self g c = (c.self-2.invariant.0, (goes g c).0)

pub returns-in-Some-clause-follows : goal.returns-in-Some-clause-follows
returns-in-Some-clause-follows g c =
    follows c.args.self.now (next g c) c.args.limbo.now c.move_on.new.limbo (answer_of c.args.told) true (rw (← c.self.view_is) c.self.invariant.0) (same g c) c.in-Some.ensures.moves

pub returns-in-Some-clause-sound : goal.returns-in-Some-clause-sound
returns-in-Some-clause-sound g c on = (goes g c).1

pub returns-in-Some-clause-lists : goal.returns-in-Some-clause-lists
returns-in-Some-clause-lists g c = rw (same g c).limits at (goes g c).1.lists

pub returns-in-Some-clause-spends : goal.returns-in-Some-clause-spends
returns-in-Some-clause-spends g c = (goes g c).2

pub returns-in-None-clause-follows : goal.returns-in-None-clause-follows
returns-in-None-clause-follows g c =
    follows c.args.self.now c.move_on.new.self c.args.limbo.now c.move_on.new.limbo (answer_of c.args.told) false (rw (← c.self.view_is) c.self.invariant.0)
    c.move_on.ensures.same c.in-None.ensures.moves
