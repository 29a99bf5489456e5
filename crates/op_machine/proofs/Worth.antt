-- A cause is worth what it has to pay for, and ten are worth all that an operation has left.
use Rattle.std.proofs.Common.{◌≡◌, ◌<◌, ◌≤◌, ◌+◌, ◌-◌, ◌*◌, ℕ, List, [], length, Option, None, Some, Bool, true, false, refl, subst, arith}
use Rattle.op_machine.proofs.Words.{mul-le-mul_left, if◌then◌else◌, ◌^◌, Limits, Record, is_removed, Knowledge, ReadGoal, WriteGoal, Reuse, Rows, Pids, Spares, ChangeState, Plan, Bits}
use Rattle.op_machine.proofs.Words.{Sweep, SweepState, few_changes, left_round, one_round, with_errands, Hand, Op, Shows, ShowsState, steps_left, sweep_left, Task}
use Rattle.traces.specs.discipline.Recalled.{Recalled, Walk, cause_worth}
use Rattle.round_model.specs.Descents.{WayState, Root, Page, left_from}
use Rattle.round_model.specs.ReadGoals as read
use Rattle.round_model.specs.ReadRounds.{read_round_kept}
use Rattle.round_model.specs.Visits.{VisitState, Slot, Row}
use Rattle.round_model.specs.Courses as write
use Rattle.round_model.specs.Walks.{reads_left_at, with_walk}
use Rattle.round_model.specs.WriteRounds.{write_round_kept}
use Rattle.change_machine.specs.Bounded as change
use Rattle.change_machine.specs.Bounded.{few_steps, numbers_missing, pids_missing, rows_missing}
use Rattle.change_machine.specs.Moves.{has_rows, lacks_lower}
use Rattle.structure_changes.specs.Plans.{needs_pid}
use Rattle.change_machine.specs.Taking.{most_reads, number_left}
use Rattle.change_machine.specs.declared.change.State.TheVariants as changing
use Rattle.change_machine.specs.declared.taking.Taking.{Taking}
use Rattle.sweep.specs.Bounded.{most_steps, reuses_left}
use Rattle.sweep.specs.Bounded as sweep
use Rattle.sweep.specs.declared.sweep.State.TheVariants as sweeping
use Rattle.op_machine.specs.machine.Bounded as op
use Rattle.op_machine.specs.machine.States.{State, Begun, Read, Write, Change}

pub enough : (limits : Limits) → 42 * limits.pids + 2 * few_changes limits + limits.actors + 20 ≤ cause_worth limits
unfolding cause_worth most_reads
enough limits = by_test limits.is_large refl
  where
    by_test : (large : Bool) → limits.is_large ≡ large → 42 * limits.pids + 2 * few_changes limits + limits.actors + 20 ≤ (if large then 2 ^ 18 + (48 * limits.pids + limits.rows) else 2 ^ 18)
    by_test true e = let few = limits.allowed.few_actors in omega (arith, few)
    by_test false e = let small = limits.small e in omega arith

-- a whole operation without errands takes fewer steps than a cause is worth
pub begin_few : (limits : Limits) → with_errands limits [] (most_steps limits + 1 + (one_round limits + 3)) < cause_worth limits
unfolding most_reads
begin_few limits = let e = enough limits in omega (arith, e)

-- a sweep
reuses_few : (limits : Limits) (reuse : Reuse) → reuses_left limits reuse ≤ most_steps limits
reuses_few limits (Rows word bits) = omega arith
reuses_few limits (Pids word bits) = omega arith

sweep_few : (limits : Limits) (state : SweepState) → sweep.steps_left limits state ≤ most_steps limits
sweep_few limits (sweeping.Reuse reuse) = reuses_few limits reuse
sweep_few limits other = omega arith

sweeps_few : (limits : Limits) (now : Option Sweep) (state : State) → sweep_left limits now state ≤ most_steps limits + 1
sweeps_few limits (Some now) state = let few = sweep_few limits now.state in omega (arith, few)
sweeps_few limits None Begun = omega arith
sweeps_few limits now state = omega arith

-- a change
number_few : (limits : Limits) (taking : Taking) → number_left limits taking ≤ most_reads limits
unfolding most_reads
number_few limits (Bits kind from word true) = omega arith
number_few limits other = omega arith

pids_few : (needs : Bool) (pid : Option ℕ) → pids_missing needs pid ≤ 1
pids_few false pid = omega arith
pids_few true None = omega arith
pids_few true (Some pid) = omega arith

rows_few : (limits : Limits) (plan : Plan) (rows : List ℕ) → rows_missing limits plan rows ≤ 2
rows_few limits plan rows = go (has_rows limits plan rows) (lacks_lower limits plan rows)
  where
    go : (all lower : Bool) → (if all then 0 else if lower then 2 else 1) ≤ 2
    go true lower = omega arith
    go false true = omega arith
    go false false = omega arith

missing_few : (limits : Limits) (plan : Plan) (spares : Spares) → numbers_missing limits plan spares - 1 ≤ 2
missing_few limits plan spares = let pids = pids_few (needs_pid plan) spares.pid in let rows = rows_few limits plan spares.rows in omega (arith, pids, rows)

change_few : (limits : Limits) (after : ℕ) (plan : Plan) (spares : Spares) (state : ChangeState) → change.steps_left_at limits after plan spares state ≤ few_steps limits + after
change_few limits after plan spares (changing.Taking taking) =
    let number = number_few limits taking in
    let most : most_reads limits * (numbers_missing limits plan spares - 1) ≤ most_reads limits * 2 = mul-le-mul_left (most_reads limits) (missing_few limits plan spares) in
    omega (arith, number, most)
change_few limits after plan spares other = omega arith

-- a round
if_few : (t : Bool) (n : ℕ) → (if t then n else 0) ≤ n
if_few true n = omega arith
if_few false n = omega arith

either_few : (t u : Bool) (m n : ℕ) → m ≤ n → (if t then m else (if u then n else 0)) ≤ n
either_few true u m n le = le
either_few false u m n le = if_few u n

visit_few : (limits : Limits) (reserve : ℕ) (walk : Walk) (part : List Record) (state : VisitState) → reads_left_at limits reserve walk part state ≤ 28 * limits.pids + 13 + reserve
visit_few limits reserve walk part Slot = let most = if_few walk.removed reserve in omega (arith, most)
visit_few limits reserve walk part (Row head row) = let most = either_few walk.passed (is_removed part) reserve (with_walk limits reserve) (omega arith) in omega (arith, most)

way_few : (limits : Limits) (reserve : ℕ) (r : Recalled) (state : WayState) → left_from limits reserve r state ≤ 28 * limits.pids + 13 + reserve
way_few limits reserve r Root = omega arith
way_few limits reserve r (Page visit) = visit_few limits reserve r.walk visit.part visit.state

read_kept : (kept : ℕ) (goal : ReadGoal) → read_round_kept kept goal ≤ kept
read_kept kept read.Seek = omega arith
read_kept kept other = omega arith

write_kept : (kept : ℕ) (goal : WriteGoal) → write_round_kept kept goal ≤ kept
write_kept kept write.Seek = omega arith
write_kept kept other = omega arith

-- what an operation has left but for its sweep and its errands
state_few : (task : Task) (spares : Spares) (k : Knowledge) (r : Recalled) (state : State) → ShowsState task spares k r state
    → op.left_at task.limits r spares state ≤ 70 * task.limits.pids + 3 * few_changes task.limits + 20
state_few task spares k r (Read round) shows =
    let way : left_from round.limits (left_round task.limits) r round.state ≤ 28 * task.limits.pids + 13 + left_round task.limits =
    subst (λ l. left_from round.limits (left_round task.limits) r round.state ≤ 28 * l.pids + 13 + left_round task.limits) shows.limits (way_few round.limits (left_round task.limits) r round.state) in
    let kept = read_kept (one_round task.limits) round.goal in
    omega (arith, way, kept)
state_few task spares k r (Write round) shows =
    let way : left_from round.limits (left_round task.limits) r round.state ≤ 28 * task.limits.pids + 13 + left_round task.limits =
    subst (λ l. left_from round.limits (left_round task.limits) r round.state ≤ 28 * l.pids + 13 + left_round task.limits) shows.round_of.limits
    (way_few round.limits (left_round task.limits) r round.state) in
    let kept = write_kept (one_round task.limits) round.goal in
    omega (arith, way, kept)
state_few task spares k r (Change now next) shows =
    let some : change.steps_left_at now.limits (one_round task.limits) now.plan spares now.state ≤ few_steps task.limits + one_round task.limits =
    subst (λ l. change.steps_left_at now.limits (one_round task.limits) now.plan spares now.state ≤ few_steps l + one_round task.limits) shows.limits
    (change_few now.limits (one_round task.limits) now.plan spares now.state) in
    omega (arith, some)
state_few task spares k r other shows = omega arith

-- all that an operation has left
pub due_few : (k : Knowledge) (r : Recalled) (now : Op) (hand : Hand) → Shows now hand k r → length now.task.errands ≤ 16 → steps_left r now hand ≤ cause_worth now.task.limits * 10
unfolding most_reads
due_few k r now hand shows short =
    let state : op.left_at now.task.limits r hand.spares now.state ≤ 70 * now.task.limits.pids + 3 * few_changes now.task.limits + 20 = state_few now.task hand.spares k r now.state shows.stands in
    let swept : sweep_left now.task.limits now.sweep now.state ≤ most_steps now.task.limits + 1 = sweeps_few now.task.limits now.sweep now.state in
    let errands : one_round now.task.limits * length now.task.errands ≤ one_round now.task.limits * 16 = mul-le-mul_left (one_round now.task.limits) short in
    let worth : 42 * now.task.limits.pids + 2 * few_changes now.task.limits + now.task.limits.actors + 20 ≤ cause_worth now.task.limits = enough now.task.limits in
    omega (arith, state, swept, errands, worth)
