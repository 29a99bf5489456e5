-- The words that the proofs of this crate share.
pub use Rattle.std.proofs.Common.{◌≡◌, ◌≤◌, ◌<◌, inl, inr, ℕ, List, [], ◌∷◌, length, Bool, Option, Some, None, true, false, refl, ap, subst, arith, is_some, zero, suc, sym, ◌∙◌, ◌++◌, ◌≢◌}
pub use Rattle.std.proofs.Common.{◌&&◌, ◌⊎◌, rules, lit<}
pub use Rattle.std.proofs.Math.Nat.{mul-le-mul_left}
pub use Rattle.std.proofs.lemmas.Bool.{eqb-true}
pub use Rattle.std.proofs.lemmas.Bool.Decides.{nat_tests}
pub use Rattle.std.proofs.lemmas.Option.{same_Some}
pub use Rattle.std.specs.Int.{bit_at}
pub use Rattle.std.specs.List.{Contains}
pub use Rattle.std.specs.Option.{option_map}
pub use Rattle.std.specs.Ordering.{is_eq}
pub use Rattle.std.specs.Prelude.{IsTrue, if◌then◌else◌, nat_lt, slice_get, IfSome, slice_index_or, MatchOption, map, IsSome, ◌^◌, not, codes}
pub use Rattle.std.specs.Str.{bytes_eq}
pub use Rattle.base_page.specs.declared.item.Content.TheVariants.{Child, Value}
pub use Rattle.base_page.specs.declared.item.Item.{Item}
pub use Rattle.bw_model.specs.Answers.{answer_of}
pub use Rattle.bw_model.specs.Bytes.{is_below, is_in_range}
pub use Rattle.bw_model.specs.Log.{Update, logged_value}
pub use Rattle.bw_model.specs.Replies.{is_writer, reply_of, command_key, update_of}
pub use Rattle.bw_model.specs.declared.command.Command.{Command}
pub use Rattle.bw_model.specs.declared.command.Command.TheVariants.{Add, Back, Get, Insert, Upsert, Delete, DeleteIf, Swap, Page as PageFrom, Tidy}
pub use Rattle.bw_model.specs.declared.step.Answer.{Answer}
pub use Rattle.bw_model.specs.declared.step.Step.{Step as StepOf}
pub use Rattle.bw_model.specs.declared.step.Step.TheVariants.{Exchange, ReusePids, TakePid}
pub use Rattle.change_machine.specs.Changes.{KeepsSparePage, linked_by, IsSpellablePlan, IsTarget}
pub use Rattle.change_machine.specs.Outs.{TakesFresh, limbo_after}
pub use Rattle.change_machine.specs.Spares.{Spares, HaveRoom}
pub use Rattle.change_machine.specs.Taking.{wanted_number}
pub use Rattle.change_machine.specs.declared.change.End.{End}
pub use Rattle.change_machine.specs.declared.change.End.TheVariants.{Won, Lost, Full}
pub use Rattle.change_machine.specs.declared.change.State.{State as ChangeState}
pub use Rattle.change_machine.specs.declared.taking.Kind.{Kind}
pub use Rattle.change_machine.specs.declared.taking.Taking.TheVariants.{Bits, Take}
pub use Rattle.deltas.specs.Memory.{Memory, replaced_at, opening}
pub use Rattle.deltas.specs.Records.{next_row}
pub use Rattle.deltas.specs.Spellable.{IsSpellablePage}
pub use Rattle.deltas.specs.declared.record.Record.{Record}
pub use Rattle.deltas.specs.declared.record.Remove.{Remove}
pub use Rattle.deltas.specs.declared.record.Unterm.{Unterm}
pub use Rattle.epochs.specs.declared.item.Reuse.{Reuse}
pub use Rattle.epochs.specs.declared.item.Reuse.TheVariants.{Rows, Pids}
pub use Rattle.round_model.proofs.SeenPages.{seen_is_read}
pub use Rattle.round_model.specs.Courses.{WriteGoal}
pub use Rattle.round_model.specs.Descents.{Descent, Finds, Responds as Moves}
pub use Rattle.round_model.specs.Machines.{AreThere}
pub use Rattle.round_model.specs.ReadEnds.{ReadEnd}
pub use Rattle.round_model.specs.ReadGoals.{ReadGoal}
pub use Rattle.round_model.specs.Rounds.{Sees}
pub use Rattle.round_model.specs.Versions.{IsAlive}
pub use Rattle.round_model.specs.Visits.{VisitState}
pub use Rattle.round_model.specs.WriteEnds.{DueChange, WriteEnd, IsPlanned}
pub use Rattle.round_model.specs.WriteResponses.{writing}
pub use Rattle.round_model.specs.WriteRounds.{WriteRound, IsUpper, IsDueBy}
pub use Rattle.rounds.specs.WriteRounds.{PlacedWrite}
pub use Rattle.structure_changes.proofs.Places.{from_made, of_made, made}
pub use Rattle.structure_changes.specs.Readings.{HasSeen}
pub use Rattle.structure_changes.specs.Versions.{Version}
pub use Rattle.structure_changes.specs.declared.after.After.TheVariants.{Errand}
pub use Rattle.structure_changes.specs.declared.plan.Plan.{Plan}
pub use Rattle.structure_changes.specs.declared.split.SplitPlan.{SplitPlan}
pub use Rattle.structure_changes.specs.declared.unlinked.Unlinked.{Unlinked}
pub use Rattle.sweep.specs.Kept.{AreKept}
pub use Rattle.sweep.specs.Sweeps.{Sweep}
pub use Rattle.sweep.specs.declared.sweep.State.{State as SweepState}
pub use Rattle.traces.proofs.ChainLaws.{IsChainFrom-unique, IsChainOf-unique}
pub use Rattle.traces.proofs.FittedLaws.{ruled}
pub use Rattle.traces.proofs.Pushes.{slice_get_below}
pub use Rattle.traces.proofs.RunLaws.{IsRun-from_steps}
pub use Rattle.traces.specs.chain.Chains.{covers, level_in, IsChainFrom, is_removed, content_in, low_in, IsChainOf, chain_rows, high_in, right_in}
pub use Rattle.traces.specs.chain.Fitted.{IsFitted, Makes}
pub use Rattle.traces.specs.chain.SideChain.{IsWhole, Spells}
pub use Rattle.traces.specs.declared.trace.Entry.{Entry}
pub use Rattle.traces.specs.discipline.Discipline.{MayReply, chain_value, May, MayFree}
pub use Rattle.traces.specs.discipline.Fitting.{Fits}
pub use Rattle.traces.specs.discipline.Knowledge.{Knowledge, learn, Limbos}
pub use Rattle.traces.specs.discipline.Learnt.{ShowsRow}
pub use Rattle.traces.specs.discipline.Recalled.{Recalled, IsStepSpent, recall, cause_worth, blank}
pub use Rattle.traces.specs.discipline.Useful.{IsUseful}
pub use Rattle.traces.specs.trace.Run.{MayPlace, IsRun}
pub use Rattle.traces.specs.trace.Trace.{memory_of, Happens, IsStep, memory_at, TakesStep, turn_of}
pub use Rattle.tree_limits.specs.declared.limits.Limits.{Limits}
pub use Rattle.op_parts.specs.declared.then.Then.{Then}
pub use Rattle.op_machine.specs.machine.Actors.{IsActorWith, wanted_by}
pub use Rattle.op_machine.specs.machine.Bounded.{IsSpentLast, LeavesFor, left_at, with_errands, one_round, few_changes, left_round, left_for}
pub use Rattle.op_machine.specs.machine.Brings.{IsUsefulOver, IsUsefulPlan, Brings, IsReadPlan, update_over}
pub use Rattle.op_machine.specs.machine.GoesLeft.{GoesLeft}
pub use Rattle.op_parts.specs.Hands.{Hand}
pub use Rattle.op_machine.specs.machine.Ops.{Op, asked_by, wanted_of, Goes, HoldsLimbo, IsToldOp, Obeys, Shows, IsToldOpThere}
pub use Rattle.op_machine.specs.machine.Outcomes.{IsAtLeafBelow, Entered, is_changing, FacesWritten, has_begun, is_leaving}
pub use Rattle.op_machine.specs.machine.Places.{left_round_of, ended_with, OpPlaces, state_of}
pub use Rattle.op_machine.specs.machine.RoundSteps.{StepsInRound, AfterReading, AfterWriting}
pub use Rattle.op_machine.specs.machine.Shows.{ShowsState, FitsLast, learn_last, recall_last, IsRoundOf, IsInChange, MayBegin}
pub use Rattle.op_machine.specs.machine.Spending.{sweep_left, Spends, steps_left}
pub use Rattle.op_machine.specs.machine.Tasks.{Task, Seeks}
pub use Rattle.op_machine.specs.machine.UnderWay.{UnderWay}
pub use Rattle.op_machine.specs.machine.Upkeep.{IsIdleFor, tidies}
pub use Rattle.op_machine.specs.machine.Works.{FollowsOutcome, IsToldOnThere, IsToldWith, TurnsInto, asked_of}
pub use Rattle.linearization.specs.Answered.{IsAnswered}
pub use Rattle.linearization.specs.Changes.{HasFewChanges}
pub use Rattle.linearization.specs.Direct.{IsDirect}
pub use Rattle.linearization.specs.Examples.{small, opening_leaf, new_leaf}
pub use Rattle.linearization.specs.Faithful.{KnowsRow, IsFaithful}
pub use Rattle.linearization.specs.Halves.{AreHalves, IsHalved}
pub use Rattle.linearization.specs.Linearized.{IsLinearized}
pub use Rattle.linearization.specs.Operations.{Operation, EndAtLeaves, Finishes, IsOperation, IsOwnStep, RepliesAtLeave}
pub use Rattle.linearization.specs.Phases.{Phase, MovesPhase, IsInPhase, KeepsPhases, owned, takes, splits, becomes_root, terms, under_root, holds, removes, merges, unterms, reuses}
pub use Rattle.linearization.specs.Phases.{MovesAt, free, indexed}
pub use Rattle.linearization.specs.Points.{log_at, HasPoints, IsPoint, has_point}
pub use Rattle.linearization.specs.Progress.{ChangesTree}
pub use Rattle.linearization.specs.Quiet.{HasMapOf, IsQuiet}
pub use Rattle.linearization.specs.Reuse.{IsFreedByRule}
pub use Rattle.linearization.specs.Updates.{UpdatesAtLinks}
