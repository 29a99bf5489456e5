use Rattle.op_machine.proofs.Words.{◌≡◌, ap, subst, sym, ◌∙◌, answer_of, Limbos, OpPlaces, state_of, AreKept}
use Rattle.op_machine.specs.machine.Shows.{learn_last, wanted_at}
use Rattle.op_machine.proofs.operation.ended.Goals as goal

pub unlink-requires : goal.unlink-requires
unlink-requires g c =
    let told = c.requires.told.told_at in
    let stands = rw (← c.hand.view_is) at told.stands in
    let fits = rw (← c.hand.view_is) at told.fits in
    let then_is : c.then.result.now ≡ c.args.places.now.then = c.then.ensures ∙ ap (λ (p : OpPlaces). p.then) c.change_next.ensures.only in
    record {
      due = (
        told.task.limits,
        told.task.actor,
        told.k,
        (learn_last told.k (wanted_at c.hand.inside.spares (state_of c.args.places.now)) (answer_of c.args.told)).limbo,
        rw (← c.hand.view_is) at c.requires.told.kept,
        rw then_is (rw c.in-Some.is at (c.change_next.ensures.unlinks told.task told.k told.r stands fits)),
      );
    }

pub returns-in-None-clause-keeps : goal.returns-in-None-clause-keeps
returns-in-None-clause-keeps g c task k r h f kept =
    let stands = rw (← c.hand.view_is) at h in
    let fits = rw (← c.hand.view_is) at f in
    let here = rw (← c.hand.view_is) at kept in
    rw (← c.hand.view_is) (subst (λ (now : Limbos). AreKept task.limits task.actor c.hand.inside.limbo now) (sym (rw c.in-None.is at (c.change_next.ensures.unlinks task k r stands fits))) here)

pub returns-in-Some-clause-keeps : goal.returns-in-Some-clause-keeps
returns-in-Some-clause-keeps g c task k r h f kept =
    let stands = rw (← c.hand.view_is) at h in
    let fits = rw (← c.hand.view_is) at f in
    let here = rw (← c.hand.view_is) at kept in
    let then_is : c.then.result.now ≡ c.args.places.now.then = c.then.ensures ∙ ap (λ (p : OpPlaces). p.then) c.change_next.ensures.only in
    rw (← c.hand.view_is) (c.unlink.ensures.keeps task.limits task.actor k _ here (rw then_is (rw c.in-Some.is at (c.change_next.ensures.unlinks task k r stands fits))))

pub returns-in-None-clause-decides : goal.returns-in-None-clause-decides
returns-in-None-clause-decides g c = rw c.in-None.is at c.change_next.ensures.decides

pub returns-in-Some-clause-decides : goal.returns-in-Some-clause-decides
returns-in-Some-clause-decides g c = rw c.in-Some.is at c.change_next.ensures.decides
