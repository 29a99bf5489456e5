use Rattle.std.proofs.Common.{◌≤◌, ◌+◌, arith}
use Rattle.tree_limits.specs.declared.limits.Limits.{Limits}
use Rattle.tree_words.proofs.RowWidths.{row_within}
use Rattle.tree_words.specs.Layout.{rows_width}
use Rattle.record_slots.specs.Layout.{row_size}
use Rattle.tree_words.proofs.opening.opening_words.Goals as goal

-- the first leaf's row ends before the slots
leaf_within : (limits : Limits) → rows_width limits 1 + row_size ≤ rows_width limits limits.rows
leaf_within limits = row_within limits 1 (let some = limits.allowed.some_rows in omega (arith, some))

pub index_mut-requires-4 : goal.index_mut-requires-4
index_mut-requires-4 g c =
    let inside = leaf_within c.args.limits.now in
    omega (arith, inside, c.row_place.ensures, c.width.ensures, c.in_ok-words.ensures.len)

pub overflow_add-row_place : goal.overflow_add-row_place
overflow_add-row_place g c =
    let inside = leaf_within c.args.limits.now in
    let small = c.width.type_inv in
    omega (arith, inside, small, c.row_place-2.ensures, c.bound_place.ensures.few, c.width.ensures)

pub index_mut-requires-5 : goal.index_mut-requires-5
index_mut-requires-5 g c =
    let inside = leaf_within c.args.limits.now in
    omega (arith, inside, c.row_place-2.ensures, c.bound_place.ensures.few, c.width.ensures, c.in_ok-words.ensures.len)
