-- The words that the proofs of this crate share.
pub use Rattle.std.proofs.Common.{Bool, List, [], add-one, ap, append-nil, append_assoc, arith, eq-eqb, eqb, false, get_or, get_or-set_other, get_or-set_same}
pub use Rattle.std.proofs.Common.{inl, inr, length, length-append, map, ne_eqb, refl, set, subst, suc, sym, take, true, zero, ℕ, ⊎_elim, ◌++◌, ◌+◌, ◌-◌, ◌<◌}
pub use Rattle.std.proofs.Common.{◌∙◌, ◌∷◌, ◌≡◌, ◌≢◌, ◌≤◌, ◌⊎◌}
pub use Rattle.std.proofs.lemmas.Bool.{cases_lt, eqb-true}
pub use Rattle.std.proofs.lemmas.List.{length-take-le, set-get_or}
pub use Rattle.std.proofs.lemmas.Option.{same_Some}
pub use Rattle.std.specs.Prelude.{None, Option, Some, if◌then◌else◌, slice_get}
pub use Rattle.atomic_table.proofs.Lists.{at_last, at_longer, at_set, set_else}
pub use Rattle.atomic_table.specs.Table.{Allows, keeps, step, stepped}
pub use Rattle.bw_model.specs.declared.command.Command.{Command}
pub use Rattle.bw_model.specs.declared.command.Reply.{Reply}
pub use Rattle.bw_model.specs.declared.step.Answer.{Answer}
pub use Rattle.bw_model.specs.declared.step.Answer.TheVariants.{Content, Done}
pub use Rattle.bw_model.specs.declared.step.Step.{Step as StepOf}
pub use Rattle.bw_model.specs.declared.step.Step.TheVariants.{Place, Row}
pub use Rattle.compact_rows.specs.Spelling.{compact_words}
pub use Rattle.deltas.specs.Memory.{Memory}
pub use Rattle.deltas.specs.declared.record.Record.{Record}
pub use Rattle.record_slots.specs.Layout.{row_size}
pub use Rattle.record_slots.specs.Spells.{HasSpelling}
pub use Rattle.table_rule.specs.Longest.{IsSeen}
pub use Rattle.table_rule.specs.Moments.{IsLater, Moment, TakesStep, cuts, joins, next, notes, same, steps}
pub use Rattle.table_rule.specs.Running.{BeginWithSteps, Each, ExtendsFor, IsPartWritten, IsSettled, IsSpelledRow, KeepsRowsApart, KnowsPlaceable, LeavesRow}
pub use Rattle.table_rule.specs.Running.{PartFits, ReachFits, Running, StartsWith, entry_actor, everywhere, is_at, times}
pub use Rattle.table_rule.specs.Steps.{Event, IsLawfulStep, IsStored, Took, tail_from, used_by, with_step, words_over, written_over}
pub use Rattle.table_rule.specs.Views.{IsOf, IsRefreshed, Mine, SitsAt, alone, first_part, other_parts, part, part_note, seen_of, with_run}
pub use Rattle.table_rule.specs.declared.view.Part.{Part}
pub use Rattle.table_rule.specs.declared.view.Reach.{Reach}
pub use Rattle.table_rule.specs.declared.view.Reach.TheVariants.{Idle, Noted, Writing}
pub use Rattle.traces.proofs.OwnEntries.{extends_self}
pub use Rattle.traces.specs.declared.trace.Entry.{Entry}
pub use Rattle.traces.specs.declared.trace.Entry.TheVariants.{Begin, Step}
pub use Rattle.traces.specs.discipline.Disciplined.{Extends, is_entry_of, own_entries}
pub use Rattle.traces.specs.discipline.Knowledge.{knows}
pub use Rattle.traces.specs.trace.Steps.{IsAnswer, memory_after}
pub use Rattle.traces.specs.trace.Trace.{memory_of}
pub use Rattle.tree_limits.specs.declared.limits.Limits.{Limits}
pub use Rattle.tree_words.proofs.RowWidths.{few_words, one_width, row_few, row_within, some_words}
pub use Rattle.tree_words.specs.Layout.{row_at, width_of}
pub use Rattle.tree_words.specs.Words.{AreWordsOf, SpellsWhere, stored, used_in, words_in}
pub use lib.ListN.{get_elem?}
pub use mathlib.Core.Logic.{dite}
pub use mathlib.Core.Option.{none, some, some-injective, some-ne-none}
pub use native.Mathlib.Decide.{ℕ_discrete}
