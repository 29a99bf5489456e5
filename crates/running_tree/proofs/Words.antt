-- The words that the proofs of this crate share.
pub use Rattle.std.proofs.Common.{◌≡◌, ◌<◌, ◌≤◌, ◌+◌, ◌-◌, ◌++◌, ◌⊎◌, inl, inr, ℕ, zero, suc, List, [], ◌∷◌, length, take, refl, ap, subst, ◌∙◌, Bool, arith, map, sym, append_assoc}
pub use Rattle.std.proofs.Common.{append-nil, ◌*◌, count_ones}
pub use Rattle.std.proofs.lemmas.Option.{same_Some}
pub use Rattle.std.specs.List.{AllByRecursion, Contains, fold}
pub use Rattle.std.specs.Prelude.{slice_get, IfSome, slice_index, if◌then◌else◌, is_some}
pub use Rattle.atomic_table.specs.Seated.{TableId}
pub use Rattle.atomic_table.specs.Table.{opening}
pub use Rattle.bw_model.specs.Answers.{answer_of}
pub use Rattle.bw_model.specs.Lent.{step_of_loan}
pub use Rattle.bw_model.specs.Log.{Update, set, logged_value}
pub use Rattle.bw_model.specs.Pairs.{IsPairsOf}
pub use Rattle.bw_model.specs.Replies.{reply_of}
pub use Rattle.bw_model.specs.declared.command.Command.{Command}
pub use Rattle.bw_model.specs.declared.command.Command.TheVariants.{Upsert}
pub use Rattle.bw_model.specs.declared.command.Reply.{Reply}
pub use Rattle.bw_model.specs.declared.step.Answer.{Answer}
pub use Rattle.bw_model.specs.declared.step.Answer.TheVariants.{Done, Number, Content}
pub use Rattle.bw_model.specs.declared.step.Step.{Step as StepOf}
pub use Rattle.bw_model.specs.declared.step.Step.TheVariants.{Leave}
pub use Rattle.change_machine.specs.Spares.{IsUnlinked, Spares}
pub use Rattle.change_machine.specs.Taking.{count_of}
pub use Rattle.change_machine.specs.declared.taking.Kind.{Kind}
pub use Rattle.deltas.proofs.Replaced.{replaced_same}
pub use Rattle.deltas.specs.Memory.{Memory}
pub use Rattle.deltas.specs.declared.record.Record.{Record}
pub use Rattle.deltas.specs.declared.record.Record.TheVariants.{Remove}
pub use Rattle.listing.specs.Listed.{IsListing}
pub use Rattle.op_machine.specs.machine.Actors.{Actor, IsActor, IsActorWith, IsToldActor, command_left, knows_then, running_command, wanted_by, command_at}
pub use Rattle.op_parts.specs.Hands.{Hand}
pub use Rattle.op_machine.specs.machine.Ops.{IsAtRestWith}
pub use Rattle.op_machine.specs.machine.UnderWay.{UnderWay, steps_due}
pub use Rattle.linearization.specs.Answered.{IsAnswered}
pub use Rattle.record_slots.specs.Layout.{row_size}
pub use Rattle.record_slots.specs.Spelling.{words_of}
pub use Rattle.round_model.specs.Machines.{AreThere}
pub use Rattle.table_rule.specs.Running.{Running, Each, ExtendsFor}
pub use Rattle.table_rule.specs.Steps.{IsLawfulStep, Took}
pub use Rattle.running_tree.specs.Told.{ReadsFirst}
pub use Rattle.table_rule.specs.Views.{Mine, alone, dealt, dealt_from, first_part, other_parts, with_run, seen_of, HasPart, IsRefreshed, SitsAt, part, IsOf}
pub use Rattle.table_rule.specs.declared.view.Part.{Part}
pub use Rattle.table_rule.specs.declared.view.Reach.TheVariants.{Idle, Noted}
pub use Rattle.traces.proofs.OwnEntries.{own_push, own_extends, extends_self}
pub use Rattle.traces.proofs.Pushes.{slice_get_below}
pub use Rattle.traces.proofs.TraceLaws.{command_of-push}
pub use Rattle.traces.specs.declared.trace.Entry.TheVariants.{Begin}
pub use Rattle.traces.specs.discipline.Discipline.{May, IsOwn}
pub use Rattle.traces.specs.discipline.Disciplined.{Extends, own_entries, is_entry_of}
pub use Rattle.traces.specs.discipline.Fitting.{Fits}
pub use Rattle.traces.specs.discipline.Knowledge.{Knowledge, knows, learn}
pub use Rattle.traces.specs.discipline.Recalled.{Recalled, blank, cause_worth, recalls}
pub use Rattle.traces.specs.trace.Steps.{IsAnswer}
pub use Rattle.traces.specs.trace.Trace.{command_of, memory_of}
pub use Rattle.traces.specs.trace.Within.{IsWithin}
pub use Rattle.tree_law.specs.Direct.{Accounts}
pub use Rattle.tree_law.specs.Own.{OwnLasts}
pub use Rattle.tree_limits.specs.declared.limits.Limits.{Limits}
pub use Rattle.tree_words.specs.Changes.{HasWord}
pub use Rattle.tree_words.specs.Layout.{row_at, slot_at}
pub use Rattle.running_tree.specs.Calls.{Advances, HasBegun, EndsWith, IsDone, IsCalled, IsFinished, IsResumed, IsSpent, IsStill, answered_last, calls_along, calls_in, calls_of}
pub use Rattle.running_tree.specs.Closed.{KeepMemory, ClosedTree, CountsAll, IsLeftBy, ListsAll, ListsPage, IsClosedWith}
pub use Rattle.running_tree.specs.Held.{AreSoMany}
pub use Rattle.running_tree.specs.Lacking.{IsLacking}
pub use Rattle.running_tree.specs.LastReply.{KeepsLack}
pub use Rattle.running_tree.specs.Loaded.{AreAt, seat_at, HaveUpserted, IsStoppedAt, KeysAscend, upsert_of, HasLoaded, HasStopped}
pub use Rattle.running_tree.specs.Room.{HasCounted, HasWatched}
pub use Rattle.running_tree.specs.Runs.{IsLawfulRun, IsSeenRun, StartsWith, IsOneHistory}
pub use Rattle.running_tree.specs.SeatLaws.{SeatsLast, HaveLaws}
pub use Rattle.running_tree.specs.Seats.{IsSeat, Seat, IsSame, unfinished_command, IsSeated}
pub use Rattle.running_tree.specs.Stands.{read_by}
pub use Rattle.running_tree.specs.Trees.{IsSeatOf, IsTreeTable, Tree, HasPartsOf, HasBusy}
pub use Rattle.running_tree.specs.declared.called.Called.{Called}
pub use Rattle.running_tree.specs.declared.called.LoadStop.{LoadStop}
