use Rattle.op_machine.proofs.Words.{cause_worth, Some, ap, sym, subst, Option, ◌∙◌, blank, is_leaving, Task, IsActorWith, UnderWay}
use Rattle.bw_model.specs.Lent.{step_of_loan}
use Rattle.traces.specs.discipline.Knowledge.{after_begin}
use Rattle.op_machine.proofs.ActorGoing.{begun_few, begun_left, command_is, idle_at, is_asking, shown_begun, told_start}
use Rattle.op_machine.proofs.actor.Actor.begin.Goals as goal

pub go_on-requires : goal.go_on-requires
go_on-requires g c =
    let (k, r, at) = c.requires.shows in
    let idle = idle_at _ _ k r c.self.inside.hand _ (rw (← c.self.view_is) at c.requires.idle) (rw (← c.self.view_is) at at) in
    record {
      told = told_start (after_begin k c.args.command) c.self.inside.hand c.begin.new.self c.begin.ensures.sweep c.begin.ensures.state
          (c.begin.ensures.shows _ _ idle);
      stays = ap is_leaving c.begin.ensures.state;
    }

pub wanted-requires-clause-shown : goal.wanted-requires-clause-shown
wanted-requires-clause-shown g c =
    let (k, r, at) = c.requires.shows in
    let idle = idle_at _ _ k r c.self.inside.hand _ (rw (← c.self.view_is) at c.requires.idle) (rw (← c.self.view_is) at at) in
    shown_begun (after_begin k c.args.command) c.self.inside.hand c.begin.new.self c.begin.ensures.sweep c.begin.ensures.state (c.begin.ensures.shows _ _ idle) _ _ c.go_on.ensures

pub returns-clause-shows : goal.returns-clause-shows
returns-clause-shows g c = λ k r h.
    let idle = idle_at _ _ k r c.self.inside.hand _ (rw (← c.self.view_is) at c.requires.idle) (rw (← c.self.view_is) at h) in
    let shown = shown_begun (after_begin k c.args.command) c.self.inside.hand c.begin.new.self c.begin.ensures.sweep c.begin.ensures.state (c.begin.ensures.shows _ _ idle) _ _ c.go_on.ensures in
    let asks = (c.wanted.ensures shown.0 shown.1 shown.2).wanted in
    subst (λ (o : Option UnderWay). IsActorWith c.args.limits.now c.args.number (after_begin k c.args.command) blank c.go_on.new.hand o) (sym (is_asking c.go_on.new.self c.go_on.new.hand _ asks))
    (begun_left (after_begin k c.args.command) c.self.inside.hand c.begin.new.self c.begin.ensures.sweep c.begin.ensures.state (c.begin.ensures.shows _ _ idle) _ _ _
    _ (ap (λ (t : Task). t.limits) c.begin.ensures.task) (ap (λ (t : Task). t.actor) c.begin.ensures.task) _ (c.go_on.ensures.obeys _ c.wanted.ensures)
    c.go_on.ensures.same)

pub returns-clause-command : goal.returns-clause-command
returns-clause-command g c = command_is c.go_on.new.self c.go_on.new.hand c.go_on.ensures.asks ∙ ap Some (c.go_on.ensures.same.command ∙ ap (λ (t : Task). t.command) c.begin.ensures.task)

pub returns-clause-bounded : goal.returns-clause-bounded
returns-clause-bounded g c =
    let (k, r, at) = c.requires.shows in
    let idle = idle_at _ _ k r c.self.inside.hand _ (rw (← c.self.view_is) at c.requires.idle) (rw (← c.self.view_is) at at) in
    let shown = shown_begun (after_begin k c.args.command) c.self.inside.hand c.begin.new.self c.begin.ensures.sweep c.begin.ensures.state (c.begin.ensures.shows _ _ idle) _ _ c.go_on.ensures in
    let asks = (c.wanted.ensures shown.0 shown.1 shown.2).wanted in
    rw asks (begun_few (after_begin k c.args.command) c.self.inside.hand c.begin.new.self c.begin.ensures.sweep c.begin.ensures.state (c.begin.ensures.shows _ _ idle)
    (cause_worth c.args.limits.now) c.go_on.new.self c.go_on.new.hand (step_of_loan c.wanted.result) (c.go_on.ensures.spends (step_of_loan c.wanted.result))
    c.begin.ensures.few)
