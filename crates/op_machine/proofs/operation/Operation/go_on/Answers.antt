use Rattle.std.proofs.Common.{◌≡◌, true, ap, sym, ◌∙◌}
use Rattle.bw_model.specs.Replies.{is_writer}
use Rattle.op_machine.specs.machine.Outcomes.{is_reading}
use Rattle.op_machine.proofs.Keeping.{work_keeps}
use Rattle.op_machine.proofs.Nexts.{told_begun}
use Rattle.op_machine.proofs.Takes.{reading_begun, takes_begun, takes_reader, yet_begun}
use Rattle.op_machine.proofs.operation.Operation.go_on.Goals as goal

pub read_number-requires-clause-told : goal.read_number-requires-clause-told
read_number-requires-clause-told g c =
    let op = c.args.self.now in
    let reading : is_reading op.state ≡ true = rw (← c.self.view_is) (sym c.is_reading.ensures ∙ c.if-is_reading.true) in
    rw (← c.hand.view_is) at (told_begun op c.args.hand.now _ (reading_begun op.state reading).0 c.requires.told).told_on

pub returns-then-is_reading : goal.returns-then-is_reading
returns-then-is_reading g c =
    let op = c.args.self.now in
    let hand = c.args.hand.now in
    let reading : is_reading op.state ≡ true = rw (← c.self.view_is) (sym c.is_reading.ensures ∙ c.if-is_reading.true) in
    let started = reading_begun op.state reading in
    takes_begun op hand _ started.0 _ hand (rw (← c.hand.view_is) c.read_number.ensures)
    (λ k r h f kept. work_keeps _ _ k r _ _ kept c.limbos_are_kept.ensures.read _ h started.1 f) c.requires.told

pub work_on-requires-clause-told : goal.work_on-requires-clause-told
work_on-requires-clause-told g c = told_begun _ _ _ (rw (← c.self.view_is) (sym c.has_begun.ensures ∙ c.if-has_begun.true)) c.requires.told

pub returns-then-has_begun : goal.returns-then-has_begun
returns-then-has_begun g c = takes_begun _ _ _ (rw (← c.self.view_is) (sym c.has_begun.ensures ∙ c.if-has_begun.true)) _ _ c.work_on.ensures.asks c.work_on.ensures.keeps c.requires.told

pub returns : goal.returns
returns g c =
    takes_reader _ _ _ (yet_begun _ (rw (← c.self.view_is) (sym c.has_begun.ensures ∙ c.if-has_begun.false)))
    (rw (← c.self.view_is) (sym (c.is_writer.ensures ∙ ap is_writer c.command.ensures) ∙ c.if-is_writer.false)) _ (c.ask_epoch.ensures _) c.requires.told
