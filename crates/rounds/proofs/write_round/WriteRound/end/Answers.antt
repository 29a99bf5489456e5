use Rattle.rounds.proofs.Words.{◌≡◌, refl, sym}
use Rattle.round_model.specs.Courses.{Left, Seek}
use Rattle.rounds.proofs.Turning.{left_by, seek_by}
use Rattle.rounds.proofs.write_round.WriteRound.end.Goals as goal

pub end_left-requires : goal.end_left-requires
end_left-requires g c =
    let left : c.args.self.now.round.goal ≡ Left c.in-Some.pid = rw (← c.self.view_is) (left_by c.self.inside.course.course.goal c.in-Some.pid (sym c.in-Some.ensures)) in
    let meets = rw left at c.requires.can.meets in
    record { read = c.requires.read; some = meets.0; below = meets.1; left = record { goal = left; here = c.requires.here; fine = c.requires.fine; level = rw left at c.requires.level } }

pub returns-in-Some-clause-treats : goal.returns-in-Some-clause-treats
returns-in-Some-clause-treats g c = c.end_left.ensures.treats

pub returns-in-Some-clause-same : goal.returns-in-Some-clause-same
returns-in-Some-clause-same g c = c.end_left.ensures.same

pub returns-in-None-clause-treats : goal.returns-in-None-clause-treats
returns-in-None-clause-treats g c =
    let seeks : c.args.self.now.round.goal ≡ Seek = rw (← c.self.view_is) (seek_by c.self.inside.course.course.goal (rw (← c.self.view_is) at c.requires.here.seeks) (sym c.in-None.ensures)) in
    record { is = refl; seeks = seeks; above = refl; here = c.requires.here; fine = c.requires.fine; level = rw seeks at c.requires.level }
