use Rattle.std.proofs.Common.{◌≡◌, ◌≢◌, ℕ, Option, Some, None, ap, sym, ◌∙◌, subst}
use Rattle.running_tree.proofs.Words.{answer_of, step_of_loan, Content, Done, Record, wanted_by, IsLawfulStep, ReadsFirst, Took, IsOf, seen_of, Advances, IsLawfulRun, IsSame, IsSeat, Seat}
use Rattle.running_tree.proofs.Words.{read_by}
use Rattle.bw_model.specs.declared.command.Reply.{Reply}
use Rattle.bw_model.specs.declared.step.Step.{Step}
use Rattle.bw_model.specs.declared.step.Told.{Told as ToldOf}
use Rattle.running_tree.specs.declared.taking.Taken.{Taken}
use Rattle.running_tree.specs.declared.taking.Taken.TheVariants.{Leaving, First, Told}
use Rattle.traces.specs.declared.trace.Entry.{Entry}
use Rattle.running_tree.proofs.Words.{Limits, List}
use Rattle.bw_model.specs.declared.step.Step.TheVariants.{Leave, Row}
use Rattle.row_search.specs.Placed.{PlacedRecord}
use Rattle.running_tree.specs.declared.desk.Desk.{Desk}
use Rattle.running_tree.specs.Told.{HasTaken}
use Rattle.running_tree.proofs.Advancing.{busy_of, seat_of, advances_of, known_may, may_go, within, told_on, told_there, seated_on, advances_on, leave_told, leave_may, leave_seated, leave_advances}
use Rattle.running_tree.proofs.Owning.{is_own}
use Rattle.running_tree.proofs.Standing.{all_there, first_there, spelt_there, took_there}
use Rattle.running_tree.proofs.seat.BwSeat.advance.Goals as goal

-- what was taken, by what the step answered
module _ {limits : Limits} {a : ℕ} {seen later : List Entry} {asked : Step Record} where
  first_taken : {taken : Taken} {row first : ℕ} → taken ≡ First row first → HasTaken limits a seen asked taken later → (asked ≡ Row row) × ReadsFirst IsLawfulRun limits a seen row first later
  first_taken is took = subst (λ t. HasTaken limits a seen asked t later) is took

  told_taken : {taken : Taken} {told : ToldOf} → taken ≡ Told told → HasTaken limits a seen asked taken later → (asked ≢ Leave) × Took IsLawfulRun limits a seen None asked (answer_of told) None later
  told_taken is took = subst (λ t. HasTaken limits a seen asked t later) is took

  took_of : {row : ℕ} {content read : Record} → asked ≡ Row row → content ≡ read → Took IsLawfulRun limits a seen None (Row row) (Content read) None later
      → Took IsLawfulRun limits a seen None asked (Content content) None later
  took_of is same took = rw (is, same) took

leave_taken : (limits : Limits) (a : ℕ) (seen later : List Entry) {asked : Step Record} {taken : Taken} → taken ≡ Leaving → HasTaken limits a seen asked taken later → asked ≡ Leave
leave_taken limits a seen later {asked = asked} is took = subst (λ t. HasTaken limits a seen asked t later) is took

took_after : {limits : Limits} {a : ℕ} {before seen later : List Entry} {reply : Option Reply} → before ≡ seen
    → Took IsLawfulRun limits a before None Leave Done reply later → Took IsLawfulRun limits a seen None Leave Done reply later
took_after same took = rw (← same) took

not_leave : {step : Step Record} {row : ℕ} → step ≡ Row row → step ≢ Leave
not_leave is leaves = cc

pub leave-requires-clause-told : goal.leave-requires-clause-told
leave-requires-clause-told g c =
    let leaves = c.wanted.ensures ∙ ap Some (leave_taken _ _ _ _ c.in-Leaving.is c.take-taken.ensures.took) in
    leave_told c.laws_of_runs.ensures _ _ _ _ c.self.invariant.seated (busy_of _ _ c.self.view_is c.requires.busy) leaves

pub take_leave-requires-clause-table : goal.take_leave-requires-clause-table
take_leave-requires-clause-table g c =
    subst (IsOf _ _ _) (sym c.take-taken.ensures.same) (is_own _ _ _ _ _ _ _ _ _ c.tree.invariant c.tree.view_is c.self.view_is c.requires.own)

pub take_leave-requires-clause-may : goal.take_leave-requires-clause-may
take_leave-requires-clause-may g c =
    let leaves = c.wanted.ensures ∙ ap Some (leave_taken _ _ _ _ c.in-Leaving.is c.take-taken.ensures.took) in
    let saw : seen_of c.take-taken.new.place.me ≡ seen_of c.self.inside.desk.place.me = ap seen_of (c.take-taken.ensures.leaving c.in-Leaving.is) in
    subst (λ seen. IsLawfulStep IsLawfulRun c.self.inside.limits c.self.inside.desk.number seen None Leave (Some c.leave.new.reply)) (sym saw)
    (leave_may c.laws_of_runs.ensures _ _ _ _ c.self.invariant.seated (busy_of _ _ c.self.view_is c.requires.busy) leaves (Some c.leave.new.reply) c.leave.new.self c.leave.ensures.goes)

pub invariant_of-self : goal.invariant_of-self
invariant_of-self g c =
    let leaves = c.wanted.ensures ∙ ap Some (leave_taken _ _ _ _ c.in-Leaving.is c.take-taken.ensures.took) in
    let saw : seen_of c.take-taken.new.place.me ≡ seen_of c.self.inside.desk.place.me = ap seen_of (c.take-taken.ensures.leaving c.in-Leaving.is) in
    let took = took_after saw c.take_leave.ensures.took in
    record {
      there = c.self.invariant.there;
      place = c.take_leave.ensures.seat;
      begins = took.begins;
      seated =
          leave_seated c.laws_of_runs.ensures _ _ _ _ c.self.invariant.seated (busy_of _ _ c.self.view_is c.requires.busy) leaves (Some c.leave.new.reply)
          c.leave.new.self c.leave.ensures.goes Done (seen_of c.take_leave.new.place.me) took c.leave.ensures.command;
    }

pub returns-in-Leaving-clause-advances : goal.returns-in-Leaving-clause-advances
returns-in-Leaving-clause-advances g c =
    let leaves = c.wanted.ensures ∙ ap Some (leave_taken _ _ _ _ c.in-Leaving.is c.take-taken.ensures.took) in
    let saw : seen_of c.take-taken.new.place.me ≡ seen_of c.self.inside.desk.place.me = ap seen_of (c.take-taken.ensures.leaving c.in-Leaving.is) in
    let took = took_after saw c.take_leave.ensures.took in
    advances_of _ _ _ _ c.self.view_is
    (leave_advances c.laws_of_runs.ensures _ _ _ _ c.self.invariant.seated (busy_of _ _ c.self.view_is c.requires.busy) leaves (Some c.leave.new.reply)
    c.leave.new.self c.leave.ensures.goes Done (seen_of c.take_leave.new.place.me) took c.self.inside.desk.place.table_id c.take_leave.new.place.table_id)

pub take-taken-requires-clause-table : goal.take-taken-requires-clause-table
take-taken-requires-clause-table g c = is_own _ _ _ _ _ _ _ _ _ c.tree.invariant c.tree.view_is c.self.view_is c.requires.own

pub take-taken-requires-clause-known : goal.take-taken-requires-clause-known
take-taken-requires-clause-known g c = known_may c.laws_of_runs.ensures _ _ _ _ c.self.invariant.seated (busy_of _ _ c.self.view_is c.requires.busy) (step_of_loan c.wanted.result) c.wanted.ensures

pub take-taken-requires-clause-within : goal.take-taken-requires-clause-within
take-taken-requires-clause-within g c = within c.laws_of_runs.ensures _ _ _ _ c.self.invariant.seated (busy_of _ _ c.self.view_is c.requires.busy) (step_of_loan c.wanted.result) c.wanted.ensures

pub take-taken-requires-clause-may : goal.take-taken-requires-clause-may
take-taken-requires-clause-may g c other = may_go c.laws_of_runs.ensures _ _ _ _ c.self.invariant.seated (busy_of _ _ c.self.view_is c.requires.busy)
    (step_of_loan c.wanted.result) c.wanted.ensures other

pub begun-record-requires-clause-spelt : goal.begun-record-requires-clause-spelt
begun-record-requires-clause-spelt g c =
    let told = first_taken c.in-First.is c.take-taken.ensures.took in
    spelt_there c.laws_of_runs.ensures _ _ _ _ c.take-taken.new.place.me _ told.1

pub begun-record-requires-clause-first : goal.begun-record-requires-clause-first
begun-record-requires-clause-first g c =
    let told = first_taken c.in-First.is c.take-taken.ensures.took in
    first_there c.laws_of_runs.ensures _ _ _ _ c.take-taken.new.place.me _ told.1

pub take_record-requires-clause-asked : goal.take_record-requires-clause-asked
take_record-requires-clause-asked g c =
    let told = first_taken c.in-First.is c.take-taken.ensures.took in
    c.wanted.ensures ∙ ap Some told.0 ∙ ap (λ (placed : PlacedRecord). Some (Row placed.row))
    (sym {b = record { row = c.in-First.row; content = read_by c.take-taken.new.place.me c.self.inside.desk.number c.in-First.row }} c.begun-record.ensures)

pub take_record-requires-clause-told : goal.take_record-requires-clause-told
take_record-requires-clause-told g c =
    let told = first_taken c.in-First.is c.take-taken.ensures.took in
    let took = took_of told.0 (ap (λ (placed : PlacedRecord). placed.content) c.begun-record.ensures) (took_there c.laws_of_runs.ensures _ _ _ _ c.take-taken.new.place.me _ told.1) in
    told_there c.laws_of_runs.ensures _ _ _ _ c.self.invariant.seated (busy_of _ _ c.self.view_is c.requires.busy) (step_of_loan c.wanted.result) c.wanted.ensures _ _
    took _
    (all_there c.laws_of_runs.ensures _ _ _ _ _ _ _ c.take-taken.new.place.me c.self.view_is c.requires.own c.take-taken.ensures.same took.kept c.take-taken.ensures.seat)

pub invariant_of-self-in-First : goal.invariant_of-self-in-First
invariant_of-self-in-First g c =
    let told = first_taken c.in-First.is c.take-taken.ensures.took in
    let took = took_of told.0 (ap (λ (placed : PlacedRecord). placed.content) c.begun-record.ensures) (took_there c.laws_of_runs.ensures _ _ _ _ c.take-taken.new.place.me _ told.1) in
    subst (λ (desk : Desk). IsSeat c.self.inside.limits desk.number desk.place.me c.take_record.new.self) (sym c.take_record.ensures.same)
    record {
      there = c.self.invariant.there;
      place = c.take-taken.ensures.seat;
      begins = took.begins;
      seated =
          seated_on c.laws_of_runs.ensures _ _ _ _ c.self.invariant.seated (busy_of _ _ c.self.view_is c.requires.busy) (step_of_loan c.wanted.result) c.wanted.ensures
          _ _ took None c.take_record.new.self (not_leave told.0) c.take_record.ensures.goes c.take_record.ensures.command;
    }

pub go_on-requires-clause-told : goal.go_on-requires-clause-told
go_on-requires-clause-told g c =
    let told = told_taken c.in-Told.is c.take-taken.ensures.took in
    told_on c.laws_of_runs.ensures _ _ _ _ c.self.invariant.seated (busy_of _ _ c.self.view_is c.requires.busy) (step_of_loan c.wanted.result) c.wanted.ensures _ _ told.1

pub invariant_of-self-in-Told : goal.invariant_of-self-in-Told
invariant_of-self-in-Told g c =
    let told = told_taken c.in-Told.is c.take-taken.ensures.took in
    record {
      there = c.self.invariant.there;
      place = c.take-taken.ensures.seat;
      begins = told.1.begins;
      seated =
          seated_on c.laws_of_runs.ensures _ _ _ _ c.self.invariant.seated (busy_of _ _ c.self.view_is c.requires.busy) (step_of_loan c.wanted.result) c.wanted.ensures
          _ _ told.1 None c.go_on.new.self told.0 c.go_on.ensures.goes c.go_on.ensures.command;
    }

pub returns-in-First-clause-same : goal.returns-in-First-clause-same
returns-in-First-clause-same g c =
    subst (λ (desk : Desk). IsSame c.args.self.now (seat_of desk.place.table_id c.self.inside.limits desk.number (seen_of desk.place.me))) (sym c.take_record.ensures.same)
    record { table = c.take-taken.ensures.same ∙ ap (λ (s : Seat). s.table) c.self.view_is; limits = ap (λ (s : Seat). s.limits) c.self.view_is; actor = ap (λ (s : Seat). s.actor) c.self.view_is }

pub returns-in-First-clause-advances : goal.returns-in-First-clause-advances
returns-in-First-clause-advances g c =
    let told = first_taken c.in-First.is c.take-taken.ensures.took in
    let took = took_of told.0 (ap (λ (placed : PlacedRecord). placed.content) c.begun-record.ensures) (took_there c.laws_of_runs.ensures _ _ _ _ c.take-taken.new.place.me _ told.1) in
    subst (λ (desk : Desk). Advances c.args.self.now None (seat_of desk.place.table_id c.self.inside.limits desk.number (seen_of desk.place.me))) (sym c.take_record.ensures.same)
    (advances_of _ _ _ _ c.self.view_is
    (advances_on c.laws_of_runs.ensures _ _ _ _ c.self.invariant.seated (busy_of _ _ c.self.view_is c.requires.busy) (step_of_loan c.wanted.result) c.wanted.ensures _ _
    took None c.take_record.new.self (not_leave told.0) c.take_record.ensures.goes c.self.inside.desk.place.table_id c.take-taken.new.place.table_id))

pub returns-in-Told-clause-advances : goal.returns-in-Told-clause-advances
returns-in-Told-clause-advances g c =
    let told = told_taken c.in-Told.is c.take-taken.ensures.took in
    advances_of _ _ _ _ c.self.view_is
    (advances_on c.laws_of_runs.ensures _ _ _ _ c.self.invariant.seated (busy_of _ _ c.self.view_is c.requires.busy) (step_of_loan c.wanted.result) c.wanted.ensures _ _
    told.1 None c.go_on.new.self told.0 c.go_on.ensures.goes c.self.inside.desk.place.table_id c.take-taken.new.place.table_id)
