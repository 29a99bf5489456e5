use Rattle.op_machine.proofs.Words.{◌≡◌, inl, inr, refl, ap, arith, rules, Limits, Knowledge, Errand, Kind, state_of, Task}
use Rattle.traces.specs.discipline.Discipline.{LacksRoom}
use Rattle.change_machine.specs.Taking.{AllFull}
use Rattle.op_parts.specs.declared.then.Then.TheVariants.{After}
use Rattle.op_machine.specs.machine.RoundSteps.{BeginsAnew}
use Rattle.change_machine.specs.declared.change.End.TheVariants.{Lost, Won}
use Rattle.change_machine.specs.declared.taking.Kind.TheVariants.{Pid, Row}
use Rattle.op_machine.proofs.Plans.{errand_more, errands_same}
use Rattle.op_machine.proofs.task.Task.end_changing.Goals as goal
use Rattle.op_machine.proofs.task.Task.end_changing.Goals.{in-Won+in-After+in-Round-1, in-Lost-1}

-- nothing of a kind is free, so there is no room
lacks_room : (limits : Limits) (k : Knowledge) (kind : Kind) → AllFull limits k.asked kind → LacksRoom limits k
lacks_room limits k Pid all = inl (λ word. all word (omega arith))
lacks_room limits k Row all = inr all

pub returns-in-Full-default-clause-stands : goal.returns-in-Full-default-clause-stands
returns-in-Full-default-clause-stands g c spares k r h =
    let full = rw c.in-Full-default.is-0 at h in
    let task = c.args.self.now in
    rw c.give_up.ensures (
      record { inside = full.0.inside; spare = full.0.spare; going = full.0.asked.going },
      record {
        command = task.command;
        going = full.0.asked.going;
        justified = inr
            (inr (inr (inr (record { is = refl; writes = full.1; unlinked = full.0.asked.unlinked; lacks = lacks_room task.limits k c.in-Full-default.kind full.2 }))));
      },
      (refl, full.2),
    )

pub returns-in-Full-default-clause-few : goal.returns-in-Full-default-clause-few
returns-in-Full-default-clause-few g c spares r = rw (c.give_up.ensures, c.in-Full-default.is-0) (errands_same c.args.self.now.limits c.args.self.now.errands _ _ (omega arith))

pub returns-in-Full-default-clause-asks : goal.returns-in-Full-default-clause-asks
returns-in-Full-default-clause-asks g c spares = rw c.give_up.ensures refl

pub returns-in-Full-default-clause-have : goal.returns-in-Full-default-clause-have
returns-in-Full-default-clause-have g c = rw c.give_up.ensures (record { reader = c.requires.have.reader; writer = c.requires.have.writer })

pub returns-in-Won-Reply-clause-asks : goal.returns-in-Won-Reply-clause-asks
returns-in-Won-Reply-clause-asks g c spares = rw c.leave.ensures refl

pub returns-in-Won-Reply-clause-have : goal.returns-in-Won-Reply-clause-have
returns-in-Won-Reply-clause-have g c = rw c.leave.ensures (record { reader = c.requires.have.reader; writer = c.requires.have.writer })

pub begin_round-requires : goal.begin_round-requires
begin_round-requires g c = record { have = rw c.add_errand.ensures c.requires.have }

pub returns-in-Won-After-Errand-clause-asks : goal.returns-in-Won-After-Errand-clause-asks
returns-in-Won-After-Errand-clause-asks g c = c.begin_round.ensures.asks

pub returns-in-Won-After-Errand-clause-have : goal.returns-in-Won-After-Errand-clause-have
returns-in-Won-After-Errand-clause-have g c = c.begin_round.ensures.have

pub returns-in-Won-After-Errand-clause-few : goal.returns-in-Won-After-Errand-clause-few
returns-in-Won-After-Errand-clause-few g c spares r =
    let own : c.add_errand.new.self.limits ≡ c.args.self.now.limits = ap (λ (task : Task). task.limits) c.add_errand.ensures in
    let few = rw own at (c.begin_round.ensures.few spares r) in
    let is : c.args.places.now.then ≡ After (Errand c.in-Won-After-Errand.separator) = search rules in
    rw (c.add_errand.ensures, c.in-Won-After-Errand.is-0, is) (errand_more c.args.self.now.limits c.args.self.now.errands c.copied-separator.result _ few)

pub returns-in-Full-default-clause-goes : goal.returns-in-Full-default-clause-goes
returns-in-Full-default-clause-goes g c writer = rw (c.in-Full-default.is-0, c.give_up.ensures) refl

pub returns-in-Won-Reply-clause-goes : goal.returns-in-Won-Reply-clause-goes
returns-in-Won-Reply-clause-goes g c writer = rw (c.in-Won-Reply.is-0, c.leave.ensures) (inl refl)

pub returns-in-Won-After-Errand-clause-goes : goal.returns-in-Won-After-Errand-clause-goes
returns-in-Won-After-Errand-clause-goes g c writer = rw c.in-Won-After-Errand.is-0 (inr (c.add_errand.new.self, c.begin_round.ensures.writes (rw c.add_errand.ensures writer)))

pub returns-in-Won-After-Round-clause-goes : goal.returns-in-Won-After-Round-clause-goes
returns-in-Won-After-Round-clause-goes g c writer =
    let anew : BeginsAnew (state_of c.begin_round-in-Won-After-Round.new.places) = (c.args.self.now, c.begin_round-in-Won-After-Round.ensures.writes writer) in
    elim c.in-Won-After-Round-1.branch [
      | in-Won+in-After+in-Round-1 w ↦ (let is : c.args.end ≡ Won = search rules in rw is (inr anew))
      | in-Lost-1 w ↦ (let is : c.args.end ≡ Lost = search rules in rw is (inr anew))
    ]
