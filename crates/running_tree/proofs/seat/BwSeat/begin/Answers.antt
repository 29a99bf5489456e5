use Rattle.std.proofs.Common.{Some, None, sym, ◌∙◌, subst}
use Rattle.std.specs.Prelude.{Option}
use Rattle.running_tree.proofs.Words.{answer_of, step_of_loan, Command, IsLawfulStep, Took, seen_of, HasBegun, IsLawfulRun, IsSeated, Seat}
use Rattle.running_tree.proofs.Advancing.{seat_of}
use Rattle.running_tree.proofs.Owning.{is_own}
use Rattle.running_tree.proofs.Begun.{idle_of, may_begin, first_stays, first_word, told_first, seated_first}
use Rattle.running_tree.proofs.seat.BwSeat.begin.Goals as goal

pub begin-requires-clause-shows : goal.begin-requires-clause-shows
begin-requires-clause-shows g c = rw c.limits.ensures (_, _, c.self.invariant.seated.shows)

pub wanted-requires-clause-shown : goal.wanted-requires-clause-shown
wanted-requires-clause-shown g c = (_, _, _, _, (rw c.limits.ensures at c.begin.ensures.shows) _ _ c.self.invariant.seated.shows)

pub take_first-told-requires-clause-table : goal.take_first-told-requires-clause-table
take_first-told-requires-clause-table g c = is_own _ _ _ _ _ _ _ _ _ c.tree.invariant c.tree.view_is c.self.view_is c.requires.own

pub take_first-told-requires-clause-range : goal.take_first-told-requires-clause-range
take_first-told-requires-clause-range g c =
    first_word c.laws_of_runs.ensures _ _ _ _ _ _ c.self.invariant.there c.self.invariant.seated (idle_of _ _ c.self.view_is c.requires.idle)
    (rw c.limits.ensures at c.begin.ensures.shows) c.begin.ensures.command (rw c.limits.ensures at c.begin.ensures.bounded) c.begin.ensures.lacks (step_of_loan c.wanted.result) c.wanted.ensures

pub take_first-told-requires-clause-may : goal.take_first-told-requires-clause-may
take_first-told-requires-clause-may g c =
    subst
    (λ (o : Option Command). IsLawfulStep IsLawfulRun c.self.inside.limits c.self.inside.desk.number (seen_of c.self.inside.desk.place.me) o (step_of_loan c.wanted.result) None)
    (sym (c.command.ensures ∙ c.begin.ensures.command))
    (may_begin c.laws_of_runs.ensures _ _ _ _ _ _ c.self.invariant.there c.self.invariant.seated (idle_of _ _ c.self.view_is c.requires.idle)
    (rw c.limits.ensures at c.begin.ensures.shows) c.begin.ensures.command (rw c.limits.ensures at c.begin.ensures.bounded) c.begin.ensures.lacks (step_of_loan c.wanted.result) c.wanted.ensures)

pub go_on-requires-clause-told : goal.go_on-requires-clause-told
go_on-requires-clause-told g c =
    let took : Took IsLawfulRun c.self.inside.limits c.self.inside.desk.number (seen_of c.self.inside.desk.place.me) (Some c.args.command)
    (step_of_loan c.wanted.result) (answer_of c.take_first-told.result) None (seen_of c.take_first-told.new.place.me) =
    subst (λ (o : Option Command). Took IsLawfulRun c.self.inside.limits c.self.inside.desk.number (seen_of c.self.inside.desk.place.me) o
    (step_of_loan c.wanted.result) (answer_of c.take_first-told.result) None (seen_of c.take_first-told.new.place.me)) (c.command.ensures ∙ c.begin.ensures.command)
    c.take_first-told.ensures.took in
    told_first c.laws_of_runs.ensures _ _ _ _ _ _ c.self.invariant.there c.self.invariant.seated (idle_of _ _ c.self.view_is c.requires.idle)
    (rw c.limits.ensures at c.begin.ensures.shows) c.begin.ensures.command (rw c.limits.ensures at c.begin.ensures.bounded) c.begin.ensures.lacks (step_of_loan c.wanted.result) c.wanted.ensures
    (answer_of c.take_first-told.result) (seen_of c.take_first-told.new.place.me) took

pub go_on-requires-clause-stays : goal.go_on-requires-clause-stays
go_on-requires-clause-stays g c =
    first_stays c.laws_of_runs.ensures _ _ _ _ _ _ c.self.invariant.there c.self.invariant.seated (idle_of _ _ c.self.view_is c.requires.idle)
    (rw c.limits.ensures at c.begin.ensures.shows) c.begin.ensures.command (rw c.limits.ensures at c.begin.ensures.bounded) c.begin.ensures.lacks (step_of_loan c.wanted.result) c.wanted.ensures

pub invariant_of-self : goal.invariant_of-self
invariant_of-self g c =
    let took : Took IsLawfulRun c.self.inside.limits c.self.inside.desk.number (seen_of c.self.inside.desk.place.me) (Some c.args.command)
    (step_of_loan c.wanted.result) (answer_of c.take_first-told.result) None (seen_of c.take_first-told.new.place.me) =
    subst (λ (o : Option Command). Took IsLawfulRun c.self.inside.limits c.self.inside.desk.number (seen_of c.self.inside.desk.place.me) o
    (step_of_loan c.wanted.result) (answer_of c.take_first-told.result) None (seen_of c.take_first-told.new.place.me)) (c.command.ensures ∙ c.begin.ensures.command)
    c.take_first-told.ensures.took in
    record {
      there = c.self.invariant.there;
      place = c.take_first-told.ensures.seat;
      begins = took.begins;
      seated =
          seated_first c.laws_of_runs.ensures _ _ _ _ _ _ c.self.invariant.there c.self.invariant.seated (idle_of _ _ c.self.view_is c.requires.idle)
          (rw c.limits.ensures at c.begin.ensures.shows) c.begin.ensures.command (rw c.limits.ensures at c.begin.ensures.bounded) c.begin.ensures.lacks (step_of_loan c.wanted.result) c.wanted.ensures
          (answer_of c.take_first-told.result) (seen_of c.take_first-told.new.place.me) took None c.go_on.new.self c.go_on.ensures.goes c.go_on.ensures.command;
    }

pub returns-clause-begins : goal.returns-clause-begins
returns-clause-begins g c =
    let took : Took IsLawfulRun c.self.inside.limits c.self.inside.desk.number (seen_of c.self.inside.desk.place.me) (Some c.args.command)
    (step_of_loan c.wanted.result) (answer_of c.take_first-told.result) None (seen_of c.take_first-told.new.place.me) =
    subst (λ (o : Option Command). Took IsLawfulRun c.self.inside.limits c.self.inside.desk.number (seen_of c.self.inside.desk.place.me) o
    (step_of_loan c.wanted.result) (answer_of c.take_first-told.result) None (seen_of c.take_first-told.new.place.me)) (c.command.ensures ∙ c.begin.ensures.command)
    c.take_first-told.ensures.took in
    let seated : IsSeated c.self.inside.limits c.self.inside.desk.number (seen_of c.take_first-told.new.place.me) c.go_on.new.self =
    seated_first c.laws_of_runs.ensures _ _ _ _ _ _ c.self.invariant.there c.self.invariant.seated (idle_of _ _ c.self.view_is c.requires.idle)
    (rw c.limits.ensures at c.begin.ensures.shows) c.begin.ensures.command (rw c.limits.ensures at c.begin.ensures.bounded) c.begin.ensures.lacks (step_of_loan c.wanted.result) c.wanted.ensures
    (answer_of c.take_first-told.result) (seen_of c.take_first-told.new.place.me) took None c.go_on.new.self c.go_on.ensures.goes c.go_on.ensures.command in
    subst (λ (old : Seat). HasBegun old c.args.command
    (seat_of c.take_first-told.new.place.table_id c.self.inside.limits c.self.inside.desk.number (seen_of c.take_first-told.new.place.me))) c.self.view_is
    record {
      run = took.run;
      extends = took.extends;
      step = step_of_loan c.wanted.result;
      told = answer_of c.take_first-told.result;
      answered = took.answered;
      grown = took.grown;
      command = sym seated.runs ∙ c.go_on.ensures.command ∙ c.begin.ensures.command;
    }
