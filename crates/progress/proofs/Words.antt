-- The words that the proofs of this crate share.
pub use Rattle.std.proofs.Common.{◌≡◌, ◌≢◌, ◌<◌, ◌⊎◌, ℕ, List, Bool, true, false, refl, subst, inl, inr, arith, ◌≤◌, Some, sym, ap, ◌∙◌, zero, suc, Option, ◌+◌, ◌-◌, ◌*◌, [], ◌∷◌, cond, length}
pub use Rattle.std.proofs.Common.{take, ◌++◌, None, append_assoc, drop}
pub use Rattle.std.proofs.Math.Nat.{mul-add, mul-le-mul_left, add-mul, suc-mul}
pub use Rattle.std.proofs.lemmas.Bool.{cases_lt, or_left, or_right}
pub use Rattle.std.proofs.lemmas.Bool.Decides.{eqb_tells}
pub use Rattle.std.proofs.lemmas.List.{length-append, drop-append-le}
pub use Rattle.std.proofs.lemmas.List.Elements.{All-head, All-push, All-tail}
pub use Rattle.std.proofs.lemmas.List.Sums.{fold-append}
pub use Rattle.std.proofs.lemmas.Option.{same_Some}
pub use Rattle.std.specs.List.{All, count_by, Contains}
pub use Rattle.std.specs.List.Sorted.{IsStrictlyIncreasing}
pub use Rattle.std.specs.Prelude.{if◌then◌else◌, ◌==◌, ⊤, slice_get, ◌||◌, not, slice_range, IsSome, is_some, IsTrue, MatchOption, IfSome, ◌&&◌}
pub use Rattle.base_page.proofs.KeyLaws.{not_true, either}
pub use Rattle.base_page.specs.Places.{HasNoChild}
pub use Rattle.base_page.specs.declared.item.Content.TheVariants.{Child}
pub use Rattle.bw_model.specs.Bytes.{is_below}
pub use Rattle.bw_model.specs.Replies.{is_writer}
pub use Rattle.bw_model.specs.declared.command.Command.{Command}
pub use Rattle.bw_model.specs.declared.command.Reply.{Reply}
pub use Rattle.bw_model.specs.declared.step.Answer.{Answer}
pub use Rattle.bw_model.specs.declared.step.Answer.TheVariants.{Number, Whether, Content}
pub use Rattle.bw_model.specs.declared.step.Link.{Link}
pub use Rattle.bw_model.specs.declared.step.Step.{Step as StepOf}
pub use Rattle.bw_model.specs.declared.step.Step.TheVariants.{Exchange, TakePid, TakeRow, Place}
pub use Rattle.deltas.specs.Memory.{Memory}
pub use Rattle.deltas.specs.Records.{next_row}
pub use Rattle.deltas.specs.declared.record.Record.{Record}
pub use Rattle.linearization.proofs.LogLaws.{take-one}
pub use Rattle.op_machine.specs.machine.Actors.{IsActorWith, command_at, wanted_by}
pub use Rattle.op_machine.specs.machine.GoesLeft.{first_read, read_left_of}
pub use Rattle.op_parts.specs.Hands.{Hand}
pub use Rattle.op_machine.specs.machine.Outcomes.{is_leaving, is_reading}
pub use Rattle.op_machine.specs.machine.RoundSteps.{AfterReading, StepsReading}
pub use Rattle.op_machine.specs.machine.States.{State, Begun, Epoch, Enter, Read, Write, Change, Leave}
pub use Rattle.op_machine.specs.machine.Tasks.{Task}
pub use Rattle.op_machine.specs.machine.UnderWay.{UnderWay}
pub use Rattle.linearization.specs.Changes.{HasFewChanges}
pub use Rattle.linearization.specs.Direct.{IsExchangeOf, IsTake, TakesNone, IsCause, IsDirect, is_step_of}
pub use Rattle.linearization.specs.Examples.{insert_and_lookup, page_life, small}
pub use Rattle.linearization.specs.Links.{link_of}
pub use Rattle.linearization.specs.Operations.{Operation, TakesOwnStep, IsOperation, IsOwnStep}
pub use Rattle.linearization.specs.Phases.{Phase, MovesPhase, MovesAt, IsInPhase, KeepsPhases, free, owned, cleared, takes, removes, merges, unterms, reuses, splits, becomes_root, terms}
pub use Rattle.linearization.specs.Phases.{under_root, holds}
pub use Rattle.linearization.specs.Progress.{AreAmong, ChangesTree, Hinders, RunsAlone, steps_from, takes_number, is_begin}
pub use Rattle.linearization.specs.ReadersEnd.{one_memory, ReadersEnd}
pub use Rattle.linearization.specs.UntilRemoval.{PlacesNoRemoval}
pub use Rattle.round_model.proofs.Responding.{by_step}
pub use Rattle.round_model.specs.Descents.{Page, Root, WayState}
pub use Rattle.round_model.specs.ReadEnds.{ReadEnd, Again, Removed, Leaf, Beside}
pub use Rattle.round_model.specs.ReadGoals.{ReadGoal, Seek, Left, Beyond}
pub use Rattle.round_model.specs.ReadLegs.{Down, Leg, Round, Past, IsPlain, above_of, below, level_on}
pub use Rattle.round_model.specs.ReadRounds.{ReadRound, TreatsRead, left_of, read_way, IsLeftLeaf, reading_on_to, on, toward, at, reading, wanted_step}
pub use Rattle.round_model.specs.Visits.{Visit, Whole, to_page, Sight, Empty, VisitState, Row, Slot}
pub use Rattle.round_model.specs.Walks.{IsOnWay}
pub use Rattle.round_model.specs.Ways.{LeadsDown, reaches, precedes, LeadsOn, LeadsRight, StaysLeft}
pub use Rattle.structure_changes.specs.Versions.{Version}
pub use Rattle.traces.proofs.ChainLaws.{same_page, IsChainFrom-unique}
pub use Rattle.traces.proofs.Cuts.{take_past, get_take}
pub use Rattle.traces.proofs.Pushes.{increasing_push, pushed_length, slice_get-push, slice_get_below, take-push_whole}
pub use Rattle.traces.proofs.TraceLaws.{memory_of-push, Happens-kept}
pub use Rattle.traces.specs.chain.Chains.{content_in, high_in, IsChainFrom, IsChainOf, low_in, level_in, is_removed, right_in, covers}
pub use Rattle.traces.specs.chain.Fitted.{IsPageChain, IsFitted}
pub use Rattle.traces.specs.chain.SideChain.{LivePage}
pub use Rattle.traces.specs.declared.trace.Entry.{Entry}
pub use Rattle.traces.specs.declared.trace.Entry.TheVariants.{Step, Begin}
pub use Rattle.traces.specs.discipline.Knowledge.{Knowledge, knows}
pub use Rattle.traces.specs.discipline.Recalled.{cause_worth, Recalled, recalls}
pub use Rattle.traces.specs.trace.Run.{IsRun, IsNext}
pub use Rattle.traces.specs.trace.Steps.{IsAnswer, memory_after}
pub use Rattle.traces.specs.trace.Trace.{Happens, TakesStep, memory_at, memory_of, memory_after_entry, command_of, commands_after}
pub use Rattle.tree_law.proofs.shape.KeyOrder.{below_not, below_upto, upto_below, upto_trans, by_below, not_below, covers_from, covers_to, upto_both, upto_refl}
pub use Rattle.tree_law.proofs.shape.Mapping.{slot_some}
pub use Rattle.tree_law.specs.Direct.{IsLast}
pub use Rattle.tree_law.specs.Keys.{Key, IsBelow, IsUpTo}
pub use Rattle.tree_law.specs.LevelPages.{IsPageOn}
pub use Rattle.tree_law.specs.OneMemory.{IsChildAt, HasWholeTree}
pub use Rattle.tree_law.specs.Shared.{shared_part}
pub use Rattle.tree_law.specs.State.{IsState, operation_from, IsInTree, phase_of}
pub use Rattle.tree_limits.specs.declared.limits.Limits.{Limits}
pub use Rattle.progress.specs.ReaderRuns.{IsReaderRun, ReadsIn, last_round, EndsWithin, FindsEach}
pub use Rattle.progress.specs.ReaderStates.{PaysFrom, PaysAt, PaysForRound, PaysReader, reader_task}
pub use Rattle.progress.specs.ReadersAmong.{changes_tree, IsLawfulMoment, IsOthers, Moment, all_changes, own_steps}
pub use Rattle.progress.specs.RoundsEnd.{one_walk}
pub use Rattle.progress.specs.RoundsIn.{IsRoundIn, IsStateIn, IsVisitIn, WasRemovedLeaf, IsGoalIn, KeepsItsPlace, IsLegIn, IsPlace, NamesPlaces}
pub use Rattle.linearization.specs.Whole.{hindrance_worth}
pub use Rattle.op_machine.specs.machine.Shows.{ShowsState}
pub use Rattle.progress.specs.WriterStates.{PaysForWriter, PaysMeets, PaysWriter}
pub use Rattle.progress.specs.Writers.{MeetsSeldom}
pub use Rattle.progress.specs.WritersAmong.{AtChange, InRound, IsLawfulWriting, StepsOn, WriterMoment, WriterState, few_meets, meets, meets_at}
pub use Rattle.round_model.proofs.PageLaws.{above_empty}
pub use Rattle.round_model.specs.Courses.{Merge, Unterm, WriteGoal}
pub use Rattle.round_model.specs.Rounds.{Responds, Sees}
pub use Rattle.round_model.specs.WriteEnds.{WriteEnd}
pub use Rattle.round_model.specs.WriteRounds.{WriteRound}
pub use Rattle.std.proofs.Math.Bool.{and-false}
pub use Rattle.structure_changes.specs.Plans.{head_of, slot_of}
pub use Rattle.structure_changes.specs.declared.plan.Plan.{Plan}
pub use Rattle.traces.specs.discipline.Discipline.{May}
pub use Rattle.traces.specs.discipline.Fitting.{Fits}
