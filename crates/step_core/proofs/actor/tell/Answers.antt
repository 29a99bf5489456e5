use Rattle.std.proofs.Common.{None, Some, ap, subst, sym, ◌∙◌}
use Rattle.bw_model.specs.declared.step.Answer.TheVariants.{Content, Done, Number, Whether}
use Rattle.core_memory.specs.Looks.{StandsIn, or_some}
use Rattle.core_memory.specs.Tables.{memory_in}
use Rattle.deltas.specs.declared.record.Record.{Record}
use Rattle.op_machine.specs.machine.Actors.{IsToldActorThere}
use Rattle.traces.specs.trace.Steps.{IsAnswer}
use Rattle.step_core.proofs.Taking.{goes_by, read_stands, told_of, told_there}
use Rattle.step_core.proofs.actor.tell.Goals as goal

pub take_record-requires-clause-told : goal.take_record-requires-clause-told
take_record-requires-clause-told g c =
    let memory = memory_in c.args.memory.now in
    let answered = subst (IsAnswer memory c.args.step.now) c.in-Content.is c.requires.answer in
    let stands = read_stands memory c.args.step.now c.in-Row.row _ c.in-Row.is answered in
    let same = (λ i. (c.of-record.ensures i).content) ∙ ap or_some stands in
    subst (λ (content : Record). IsToldActorThere (StandsIn memory) c.args.actor.now (Content content)) (sym same)
    (told_there memory c.args.actor.now c.in-Row.row _ c.requires.running c.requires.knows (c.requires.wanted ∙ ap Some c.in-Row.is) stands)

pub go_on-requires-in-Number-clause-told : goal.go_on-requires-in-Number-clause-told
go_on-requires-in-Number-clause-told g c =
    told_of (memory_in c.args.memory.now) c.args.step.now c.args.answer.now c.args.actor.now (Number c.in-Number.number) c.requires.running c.requires.knows
    c.requires.wanted c.requires.answer (sym c.in-Number.is)

pub returns-in-Number-clause-goes : goal.returns-in-Number-clause-goes
returns-in-Number-clause-goes g c = λ limits number k r ready.
    goes_by limits number k r (memory_in c.args.memory.now) c.args.step.now c.args.answer.now c.args.actor.now c.go_on-in-Number.new.self
    (Number c.in-Number.number) None c.requires.running ready c.requires.wanted c.requires.answer (sym c.in-Number.is)
    (c.go_on-in-Number.ensures.goes limits number k r)

pub go_on-requires-in-Whether-clause-told : goal.go_on-requires-in-Whether-clause-told
go_on-requires-in-Whether-clause-told g c =
    told_of (memory_in c.args.memory.now) c.args.step.now c.args.answer.now c.args.actor.now (Whether c.in-Whether.whether) c.requires.running c.requires.knows
    c.requires.wanted c.requires.answer (sym c.in-Whether.is)

pub returns-in-Whether-clause-goes : goal.returns-in-Whether-clause-goes
returns-in-Whether-clause-goes g c = λ limits number k r ready.
    goes_by limits number k r (memory_in c.args.memory.now) c.args.step.now c.args.answer.now c.args.actor.now c.go_on-in-Whether.new.self
    (Whether c.in-Whether.whether) None c.requires.running ready c.requires.wanted c.requires.answer (sym c.in-Whether.is)
    (c.go_on-in-Whether.ensures.goes limits number k r)

pub go_on-requires-in-Done-clause-told : goal.go_on-requires-in-Done-clause-told
go_on-requires-in-Done-clause-told g c =
    told_of (memory_in c.args.memory.now) c.args.step.now c.args.answer.now c.args.actor.now Done c.requires.running c.requires.knows c.requires.wanted c.requires.answer (sym c.in-Done.is)

pub returns-in-Done-clause-goes : goal.returns-in-Done-clause-goes
returns-in-Done-clause-goes g c = λ limits number k r ready.
    goes_by limits number k r (memory_in c.args.memory.now) c.args.step.now c.args.answer.now c.args.actor.now c.go_on-in-Done.new.self Done None
    c.requires.running ready c.requires.wanted c.requires.answer (sym c.in-Done.is) (c.go_on-in-Done.ensures.goes limits number k r)

pub returns-in-Row-clause-goes : goal.returns-in-Row-clause-goes
returns-in-Row-clause-goes g c = λ limits number k r ready.
    let memory = memory_in c.args.memory.now in
    let answered = subst (IsAnswer memory c.args.step.now) c.in-Content.is c.requires.answer in
    let stands = read_stands memory c.args.step.now c.in-Row.row _ c.in-Row.is answered in
    let same = (λ i. (c.of-record.ensures i).content) ∙ ap or_some stands in
    goes_by limits number k r memory c.args.step.now c.args.answer.now c.args.actor.now c.take_record.new.self (Content c.of-record.result.content) None
    c.requires.running ready c.requires.wanted c.requires.answer (ap Content same ∙ sym c.in-Content.is) (c.take_record.ensures.goes limits number k r)
