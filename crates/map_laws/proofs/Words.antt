-- The words that the proofs of this crate share.
pub use Rattle.std.proofs.Common.{Bool, IsSome, IsTrue, List, None, Option, Some, [], ap, append-nil, append_assoc, arith, drop, eq-eqb, false, inl, inr}
pub use Rattle.std.proofs.Common.{length, map, refl, subst, suc, sym, take, true, zero, ℕ, ◌++◌, ◌+◌, ◌-◌, ◌<◌, ◌∙◌, ◌∷◌, ◌≡◌, ◌≤◌, ◌⊎◌}
pub use Rattle.std.proofs.Math.Decide.{dec_le}
pub use Rattle.std.proofs.lemmas.Bool.{eqb-false, eqb-true}
pub use Rattle.std.proofs.lemmas.List.Sums.{fold-append}
pub use Rattle.std.proofs.lemmas.Option.{same_Some}
pub use Rattle.std.specs.List.{fold}
pub use Rattle.std.specs.Ordering.{is_eq}
pub use Rattle.std.specs.Prelude.{if◌then◌else◌, slice_get, ◌==◌}
pub use Rattle.base_page.proofs.KeyLaws.{and_both, and_left, and_right, either}
pub use Rattle.bw_model.specs.Bytes.{key_cmp}
pub use Rattle.bw_model.specs.Log.{Update, logged_value}
pub use Rattle.bw_model.specs.Replies.{command_key, is_writer, reply_of}
pub use Rattle.bw_model.specs.declared.command.Command.{Command}
pub use Rattle.bw_model.specs.declared.command.Command.TheVariants.{Get, Upsert}
pub use Rattle.bw_model.specs.declared.command.Reply.{Reply}
pub use Rattle.bw_model.specs.declared.step.Answer.{Answer}
pub use Rattle.bw_model.specs.declared.step.Answer.TheVariants.{Done}
pub use Rattle.bw_model.specs.declared.step.Step.{Step as StepOf}
pub use Rattle.bw_model.specs.declared.step.Step.TheVariants.{Leave}
pub use Rattle.deltas.specs.declared.record.Record.{Record}
pub use Rattle.linearization.proofs.LogLaws.{take-one}
pub use Rattle.linearization.specs.Answered.{IsAnswered, IsTrueReply, RepliesAtPoint}
pub use Rattle.linearization.specs.Linearized.{IsLinearized}
pub use Rattle.linearization.specs.Operations.{Finishes, IsOperation, IsOwnEntry, IsOwnStep, Operation}
pub use Rattle.linearization.specs.Points.{HasPoints, IsPoint, has_point, log_at, updates_by}
pub use Rattle.map_laws.specs.Fits.{fits}
pub use Rattle.map_laws.specs.InOrder.{AreInOrder, operation_at}
pub use Rattle.map_laws.specs.OwnKeys.{AreOwnReplies, is_about, may_change, tells, value_made, value_then, value_through}
pub use Rattle.running_tree.proofs.Going.{answered_snoc}
pub use Rattle.running_tree.specs.Calls.{IsDone, answered_last, call_after, calls_along, calls_in, calls_of}
pub use Rattle.running_tree.specs.RealTime.{ComesBefore}
pub use Rattle.running_tree.specs.Runs.{IsOneHistory}
pub use Rattle.running_tree.specs.Seats.{IsSame, Seat, unfinished_command}
pub use Rattle.traces.proofs.OwnEntries.{own_append, own_push}
pub use Rattle.traces.proofs.Pushes.{pushed_length, slice_get-append_left, slice_get-push, slice_get-push_cases, slice_get_below, slice_get_kept}
pub use Rattle.traces.proofs.Pushes.{take-push_whole}
pub use Rattle.traces.proofs.TraceLaws.{command_of-push}
pub use Rattle.traces.specs.declared.trace.Entry.{Entry}
pub use Rattle.traces.specs.declared.trace.Entry.TheVariants.{Begin, Step}
pub use Rattle.traces.specs.declared.trace.Turn.{Turn}
pub use Rattle.traces.specs.discipline.Disciplined.{is_entry_of, own_entries}
pub use Rattle.traces.specs.trace.Run.{IsRun}
pub use Rattle.traces.specs.trace.Trace.{command_of, commands_after, memory_at, turn_of}
pub use Rattle.tree_limits.specs.declared.limits.Limits.{Limits}
pub use mathlib.Core.Logic.{dite}
pub use native.Mathlib.Decide.{ℕ_discrete}
