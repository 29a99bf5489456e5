use Rattle.std.proofs.Common.{sym, ◌∙◌}
use Rattle.bw_model.specs.declared.step.Answer.TheVariants.{Content}
use Rattle.op_machine.proofs.Keeping.{work_keeps}
use Rattle.op_machine.proofs.Nexts.{asks, told_alone, told_there}
use Rattle.op_machine.proofs.RowsRead.{begun, still}
use Rattle.op_machine.proofs.Takes.{takes_begun}
use Rattle.op_machine.proofs.operation.Operation.take_record.Goals as goal

pub round_record-requires : goal.round_record-requires
round_record-requires g c =
    let told = c.requires.told in
    let op = c.args.self.now in
    let hand = c.args.hand.now in
    let started = begun op.task.limits told.k c.args.found.content hand.spares op.sweep op.state told.fits in
    record {
      asked = rw (← c.hand.view_is) at (sym (asks op hand (Content c.args.found.content) started told.k told.r told.shows) ∙ c.requires.asked);
      told = rw (← c.hand.view_is) at (told_there op hand _ started _ told);
    }

pub returns-clause-takes : goal.returns-clause-takes
returns-clause-takes g c =
    let told = c.requires.told in
    let op = c.args.self.now in
    let hand = c.args.hand.now in
    let started = begun op.task.limits told.k c.args.found.content hand.spares op.sweep op.state told.fits in
    takes_begun op hand _ started _ hand (rw (← c.hand.view_is) c.round_record.ensures.asks)
    (λ k r h f kept. work_keeps _ _ k r _ _ kept c.limbos_are_kept.ensures.read _ h (still op.task.limits k c.args.found.content hand.spares op.state f) f)
    (told_alone op hand _ started _ told)
