use Rattle.std.proofs.Common.{◌≡◌, [], sym, refl, inl, inr}
use Rattle.op_machine.proofs.Plans.{errand_less, errands_same, none_left, without_errand}
use Rattle.op_machine.proofs.task.Task.end_at_sought_leaf.Goals as goal

pub returns-in-Some-clause-stands : goal.returns-in-Some-clause-stands
returns-in-Some-clause-stands g c k r h =
    c.begin_round.ensures.stands c.args.spares.now k r
    (without_errand c.args.self.now c.finish_errand.new.self c.args.spares.now k (rw c.finish_errand.ensures refl) (rw c.finish_errand.ensures refl) h.at.seeks)

pub end_at_own_leaf-requires : goal.end_at_own_leaf-requires
end_at_own_leaf-requires g c = record { have = c.requires.have; faced = c.requires.faced; last = none_left c.args.self.now.errands (sym c.in-None.ensures) }

pub begin_round-requires : goal.begin_round-requires
begin_round-requires g c = record { have = rw c.finish_errand.ensures c.requires.have }

pub returns-in-None-clause-stands : goal.returns-in-None-clause-stands
returns-in-None-clause-stands g c = c.end_at_own_leaf.ensures.stands

pub returns-in-None-clause-few : goal.returns-in-None-clause-few
returns-in-None-clause-few g c r = errands_same c.args.self.now.limits c.args.self.now.errands _ _ (c.end_at_own_leaf.ensures.few r)

pub returns-in-None-clause-asks : goal.returns-in-None-clause-asks
returns-in-None-clause-asks g c = c.end_at_own_leaf.ensures.asks

pub returns-in-None-clause-same : goal.returns-in-None-clause-same
returns-in-None-clause-same g c = record { limits = refl; actor = refl; command = refl }

pub returns-in-None-clause-errands : goal.returns-in-None-clause-errands
returns-in-None-clause-errands g c = let last : c.args.self.now.errands ≡ [] = none_left c.args.self.now.errands (sym c.in-None.ensures) in rw last refl

pub returns-in-None-clause-have : goal.returns-in-None-clause-have
returns-in-None-clause-have g c = c.end_at_own_leaf.ensures.have

pub returns-in-Some-clause-few : goal.returns-in-Some-clause-few
returns-in-Some-clause-few g c r =
    rw c.finish_errand.ensures (errand_less c.args.self.now.limits c.args.self.now.errands _ _ c.in-Some.ensures (rw c.finish_errand.ensures at (c.begin_round.ensures.few c.args.spares.now r)))

pub returns-in-Some-clause-asks : goal.returns-in-Some-clause-asks
returns-in-Some-clause-asks g c = c.begin_round.ensures.asks c.args.spares.now

pub returns-in-Some-clause-same : goal.returns-in-Some-clause-same
returns-in-Some-clause-same g c = rw c.finish_errand.ensures (record { limits = refl; actor = refl; command = refl })

pub returns-in-Some-clause-errands : goal.returns-in-Some-clause-errands
returns-in-Some-clause-errands g c = rw c.finish_errand.ensures refl

pub returns-in-Some-clause-have : goal.returns-in-Some-clause-have
returns-in-Some-clause-have g c = c.begin_round.ensures.have

pub returns-in-None-clause-goes : goal.returns-in-None-clause-goes
returns-in-None-clause-goes g c = c.end_at_own_leaf.ensures.goes

pub returns-in-Some-clause-goes : goal.returns-in-Some-clause-goes
returns-in-Some-clause-goes g c =
    let (k, r, h, there) = c.requires.faced in
    inr (inl (c.finish_errand.new.self, c.begin_round.ensures.writes (rw c.finish_errand.ensures h.at.writer)))
