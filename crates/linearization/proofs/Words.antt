-- The words that the proofs of this crate share.
pub use Rattle.std.proofs.Common.{◌≡◌, ◌≤◌, ◌<◌, inl, inr, ℕ, List, [], ◌∷◌, length, Bool, Option, Some, None, true, false, refl, ap, subst, arith, zero, suc}
pub use Rattle.std.proofs.Common.{sym, ◌∙◌, ◌++◌, ◌&&◌, ◌⊎◌, lit<}
pub use Rattle.std.proofs.lemmas.Bool.{eqb-true}
pub use Rattle.std.proofs.lemmas.Bool.Decides.{nat_tests}
pub use Rattle.std.specs.Int.{bit_at}
pub use Rattle.std.specs.List.{Contains}
pub use Rattle.std.specs.Option.{option_map}
pub use Rattle.std.specs.Ordering.{is_eq}
pub use Rattle.std.specs.Prelude.{if◌then◌else◌, slice_get, map, not, codes}
pub use Rattle.base_page.specs.declared.item.Content.TheVariants.{Value}
pub use Rattle.bw_model.specs.Bytes.{is_below, is_in_range}
pub use Rattle.bw_model.specs.Log.{Update, logged_value}
pub use Rattle.bw_model.specs.Replies.{reply_of, update_of}
pub use Rattle.bw_model.specs.declared.command.Command.{Command}
pub use Rattle.bw_model.specs.declared.command.Command.TheVariants.{Get, Insert}
pub use Rattle.bw_model.specs.declared.step.Answer.{Answer}
pub use Rattle.bw_model.specs.declared.step.Step.{Step as StepOf}
pub use Rattle.bw_model.specs.declared.step.Step.TheVariants.{Exchange, ReusePids, TakePid}
pub use Rattle.deltas.specs.Memory.{Memory, opening}
pub use Rattle.deltas.specs.declared.record.Record.{Record}
pub use Rattle.deltas.specs.declared.record.Remove.{Remove}
pub use Rattle.traces.proofs.ChainLaws.{IsChainFrom-unique, IsChainOf-unique}
pub use Rattle.traces.proofs.Pushes.{slice_get_below}
pub use Rattle.traces.proofs.RunLaws.{IsRun-from_steps}
pub use Rattle.traces.specs.chain.Chains.{covers, level_in, content_in, low_in, IsChainOf, high_in, right_in}
pub use Rattle.traces.specs.chain.SideChain.{IsWhole, Spells}
pub use Rattle.traces.specs.declared.trace.Entry.{Entry}
pub use Rattle.traces.specs.discipline.Learnt.{ShowsRow}
pub use Rattle.traces.specs.trace.Run.{MayPlace, IsRun}
pub use Rattle.traces.specs.trace.Trace.{memory_of, Happens, IsStep, memory_at, TakesStep, turn_of}
pub use Rattle.tree_limits.specs.declared.limits.Limits.{Limits}
pub use Rattle.linearization.specs.Answered.{IsAnswered}
pub use Rattle.linearization.specs.Changes.{HasFewChanges}
pub use Rattle.linearization.specs.Direct.{IsDirect}
pub use Rattle.linearization.specs.Examples.{small, opening_leaf}
pub use Rattle.linearization.specs.Faithful.{KnowsRow, IsFaithful}
pub use Rattle.linearization.specs.Linearized.{IsLinearized}
pub use Rattle.linearization.specs.Operations.{Operation, EndAtLeaves, Finishes, IsOperation, IsOwnStep, RepliesAtLeave}
pub use Rattle.linearization.specs.Phases.{Phase, MovesPhase, IsInPhase, KeepsPhases, owned, takes, splits, becomes_root, terms, under_root, holds, removes}
pub use Rattle.linearization.specs.Phases.{merges, unterms, reuses, MovesAt, free, indexed}
pub use Rattle.linearization.specs.Points.{log_at, HasPoints, IsPoint, has_point}
pub use Rattle.linearization.specs.Progress.{ChangesTree}
pub use Rattle.linearization.specs.Quiet.{HasMapOf, IsQuiet}
pub use Rattle.linearization.specs.Reuse.{IsFreedByRule}
pub use Rattle.linearization.specs.Updates.{UpdatesAtLinks}
