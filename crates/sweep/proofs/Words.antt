-- The words that the proofs of this crate share.
pub use Rattle.bw_model.specs.declared.step.Answer.{Answer}
pub use Rattle.deltas.specs.Memory.{replaced_at}
pub use Rattle.deltas.specs.declared.record.Record.{Record}
pub use Rattle.epochs.specs.Limbo.{Limbo, LimboList, all_restaged, compared_with, first_restaged, is_passed, stage_in, stage_of, stamped_by, with_stages}
pub use Rattle.epochs.specs.Words.{HandsOn, may_go, without}
pub use Rattle.epochs.specs.declared.entry.Entry.{Entry}
pub use Rattle.epochs.specs.declared.entry.Stage.{Stage}
pub use Rattle.epochs.specs.declared.entry.Stage.TheVariants.{Passed, Stamped, Unstamped}
pub use Rattle.epochs.specs.declared.item.Reuse.TheVariants.{Pids, Rows}
pub use Rattle.std.proofs.Common.{Bool, List, None, Option, Some, [], ap, arith, drop, eqb, false, inl, inr, refl, suc, sym, take, true, zero, ℕ, ◌/◌, ◌<◌, ◌^◌, ◌∙◌, ◌∷◌, ◌≡◌, ◌≢◌, ◌≤◌}
pub use Rattle.std.proofs.lemmas.Bool.{and_parts, cases_Bool, cases_eq, cases_lt, eq-eqb, eqb-true, or_cases, or_parts, or_right}
pub use Rattle.std.specs.List.{list_any}
pub use Rattle.std.specs.Prelude.{if◌then◌else◌, ◌&&◌, ◌||◌}
pub use Rattle.sweep.specs.Announced.{Announced, none_yet, with_next}
pub use Rattle.sweep.specs.Kept.{Agrees, AreKept}
pub use Rattle.sweep.specs.Moves.{BeginsSweep, Compares, Frees, Moves, Stamps, after_comparing, has_unstamped}
pub use Rattle.sweep.specs.Sweeps.{IsSameSweep, IsSoundState, Sweep}
pub use Rattle.sweep.specs.declared.sweep.State.{State}
pub use Rattle.sweep.specs.declared.sweep.TheConstants.{MOST_COMPARED}
pub use Rattle.tree_limits.specs.declared.limits.Limits.{Limits}
