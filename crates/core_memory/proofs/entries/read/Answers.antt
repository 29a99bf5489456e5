use Rattle.std.proofs.Common.{[], refl, ap, ◌∙◌, Some}
use Rattle.std.proofs.lemmas.List.{get_or_default}
use Rattle.bw_model.specs.declared.command.Command.TheVariants.{Page}
use Rattle.bw_model.specs.declared.command.Reply.{Reply}
use Rattle.bw_model.specs.declared.command.Reply.TheVariants as kind
use Rattle.bw_model.specs.declared.step.Answer.TheVariants.{Done}
use Rattle.bw_model.specs.declared.step.Step.TheVariants as step
use Rattle.traces.specs.declared.trace.Entry.TheVariants as entry
use Rattle.core_memory.proofs.entries.read.Goals as goal

pub returns-in-Step : goal.returns-in-Step
returns-in-Step g c = rw (c.in-Step.is, c.step_of.ensures, c.answer_of.ensures) refl

pub returns-in-Begin : goal.returns-in-Begin
returns-in-Begin g c =
    let within = rw c.in-Begin.is at c.requires in
    rw (c.in-Begin.is, c.copied.ensures)
    (ap (entry.Begin c.in-Begin.actor) (c.index-commands-place.is ∙ get_or_default c.args.commands.now c.in-Begin.place c.index-commands-place.result (Page []) within))

pub returns-in-Leave : goal.returns-in-Leave
returns-in-Leave g c =
    let within = rw c.in-Leave.is at c.requires in
    rw (c.in-Leave.is, c.reply-reply.ensures) (ap (λ (reply : Reply). entry.Step c.in-Leave.actor step.Leave Done (Some reply))
    (c.index-replies-place.is ∙ get_or_default c.args.replies.now c.in-Leave.place c.index-replies-place.result kind.None within))
