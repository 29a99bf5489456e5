-- The words of the opening memory, part by part.
use Rattle.std.specs.Prelude.{ℕ, zero, suc, ◌+◌, ◌*◌, ◌/◌, if◌then◌else◌, List, replicate, slice_set}
use Rattle.tree_limits.specs.declared.limits.Limits.{Limits}
use Rattle.record_slots.specs.Layout.{form_unit, no_bound, second_at}
use Rattle.record_slots.specs.Parts.{header_word}
use Rattle.compact_rows.specs.Layout.{compact_form, second_unit}
use Rattle.tree_words.specs.Layout.{slot_at, pid_bits_at, row_bits_at, epoch_at, row_at, width}

-- n words in which all bits are set
abbrev pub with_ones : ℕ → ℕ → List ℕ → List ℕ
with_ones from zero words = words
with_ones from (suc n) words = slice_set (with_ones from n words) (from + n) 18446744073709551615

-- words of free numbers, which are free from 2 on
abbrev pub with_free : ℕ → ℕ → List ℕ → List ℕ
with_free from n words = slice_set (with_ones from n words) from 18446744073709551612

-- the header of an empty leaf, and where the mark of no bound stands, which is this word
abbrev pub leaf_header : Limits → ℕ
leaf_header limits = if limits.is_large then 1 + form_unit * compact_form else header_word 1 0 0

abbrev pub bound_at : Limits → ℕ
bound_at limits = if limits.is_large then 1 else second_at

abbrev pub bound_word : Limits → ℕ
bound_word limits = if limits.is_large then second_unit * no_bound else no_bound

-- Slots 0 and 1 hold 1, and row 1 has an empty leaf: its header, and the mark of no bound.
abbrev pub opening_words : Limits → List ℕ
opening_words limits =
    slice_set (slice_set (slice_set (slice_set (slice_set (with_free (row_bits_at limits 0) (limits.rows / 64) (with_free (pid_bits_at limits 0) (limits.pids / 64) (replicate (width limits) 0)))
    (slot_at limits 0) 1) (slot_at limits 1) 1) epoch_at limits.epoch) (row_at limits 1 0) (leaf_header limits)) (row_at limits 1 (bound_at limits)) (bound_word limits)
