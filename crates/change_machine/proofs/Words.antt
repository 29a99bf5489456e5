-- The words that the proofs of this crate share.
pub use Rattle.bw_model.specs.declared.step.Answer.{Answer}
pub use Rattle.change_machine.specs.Changes.{AreEnough, Change, ChangeIsOver, Follows, IsLike, IsNeededNext, IsPlaced, IsSameChange, IsSoundChange, IsTarget, KeepsSpare, MayChange, Shows}
pub use Rattle.change_machine.specs.Changes.{StandsReady, linked_number, needed_from, split_row, wanted_at, wanted_step}
pub use Rattle.change_machine.specs.Moves.{Moved, after_ready, after_taking, decided_by, first_state, has_rows, moved_by, next_move, spares_left, wanted_from, whether_in, with_number}
pub use Rattle.change_machine.specs.Spares.{AreTheSpares, AreUnset, HaveRoom, IsUnlinked, Spares, last_row, pid_of}
pub use Rattle.change_machine.specs.Taking.{begun_at, count_of, found_after, from_of, kind_of, near_after, wanted_number, words_end}
pub use Rattle.change_machine.specs.declared.change.End.{End}
pub use Rattle.change_machine.specs.declared.change.State.{State}
pub use Rattle.change_machine.specs.declared.taking.Found.{Found}
pub use Rattle.change_machine.specs.declared.taking.Found.TheVariants.{Full, Not}
pub use Rattle.change_machine.specs.declared.taking.Kind.{Kind}
pub use Rattle.change_machine.specs.declared.taking.Kind.TheVariants.{Pid, Row}
pub use Rattle.change_machine.specs.declared.taking.Taking.TheVariants.{Bits, Take}
pub use Rattle.deltas.proofs.Replaced.{replaced_other, replaced_same}
pub use Rattle.deltas.specs.Memory.{replaced_at}
pub use Rattle.deltas.specs.declared.record.Record.{Record}
pub use Rattle.std.proofs.Common.{Bool, List, None, Option, Some, [], ap, arith, false, inl, inr, length, refl, subst, suc, sym, take, true, zero, ℕ, ◌*◌, ◌++◌, ◌+◌, ◌<◌, ◌∙◌, ◌∷◌, ◌≡◌, ◌≤◌}
pub use Rattle.std.proofs.lemmas.Bool.{cases_eq, ltb-false, ltb-true}
pub use Rattle.std.specs.Int.{trailing_zeros, w64}
pub use Rattle.std.specs.Prelude.{if◌then◌else◌, is_some, ltb, not, ◌&&◌}
pub use Rattle.structure_changes.specs.Plans.{clears, head_of, needs_pid, rows_needed, slot_of}
pub use Rattle.structure_changes.specs.Splits.{split_to}
pub use Rattle.structure_changes.specs.declared.plan.Plan.{Plan}
pub use Rattle.structure_changes.specs.declared.plan.Plan.TheVariants.{Install, Root, Unlink}
pub use Rattle.traces.specs.discipline.Discipline.{MayExchange}
pub use Rattle.traces.specs.discipline.Fitting.{Fits, FitsWord, ReadsRemoved}
pub use Rattle.traces.specs.discipline.Knowledge.{Belongings, Empty, Foreign, Gone, Knowledge, Other, OwnPage, OwnRow, Written, learn, linked_over}
pub use Rattle.tree_limits.specs.declared.limits.Limits.{Limits}
