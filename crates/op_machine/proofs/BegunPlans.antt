-- An operation at which a change has just begun.
use Rattle.op_machine.proofs.Words.{refl, one_round, Spares, Plan}
use Rattle.change_machine.specs.Begun.{HasBegun}
use Rattle.change_machine.specs.Changes.{Change as ChangeOf}
use Rattle.op_parts.specs.declared.then.Then.{Then}
use Rattle.op_machine.specs.machine.Begun.{HasBegunPlan}
use Rattle.op_machine.specs.machine.States as at
use Rattle.op_machine.specs.machine.Tasks.{Task}
use Rattle.op_machine.proofs.Changing.{begins_apart}
use Rattle.op_machine.proofs.Plans.{one_more}

pub begun_plan : (task : Task) (spares : Spares) (plan : Plan) (then : Then) (change : ChangeOf) → HasBegun task.limits plan spares change
    → HasBegunPlan task spares plan then (at.Change change then)
begun_plan task spares plan then change begun = record {
  stands = λ k r b. record {
    asked = b.seeks.asked;
    writer = b.writer;
    limits = begun.limits;
    brings = rw begun.plan b.brings;
    useful = rw begun.plan b.useful;
    split = rw begun.plan b.split;
    unread = b.seeks.unread;
    sound = begun.sound;
    made = begun.made;
    shows = begun.shows task.actor k b.may b.keeps b.seeks.spare.rest;
    recalls = begun.recalls r b.recalled (begins_apart k plan spares b.seeks.unread b.split);
  };
  few = λ r. one_more _ _ (begun.few (one_round task.limits));
  asks = refl;
  begins = (change, then, refl, begun.plan, begun.first);
}
