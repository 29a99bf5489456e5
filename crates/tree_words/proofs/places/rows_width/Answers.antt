use Rattle.std.proofs.Common.{sym}
use Rattle.tree_words.proofs.RowWidths.{all_wide, narrow_is, page_is, wide_is}
use Rattle.tree_words.proofs.places.rows_width.Goals as goal

pub returns-then-limits-eq0-clause-width : goal.returns-then-limits-eq0-clause-width
returns-then-limits-eq0-clause-width c = sym (all_wide c.args.limits.now c.args.row c.if-limits-eq0.true)

pub returns-then-row-limits-clause-width : goal.returns-then-row-limits-clause-width
returns-then-row-limits-clause-width c = sym (wide_is c.args.limits.now c.args.row c.if-row-limits.true)

pub returns-then-row-limits-2-clause-width : goal.returns-then-row-limits-2-clause-width
returns-then-row-limits-2-clause-width c = sym (narrow_is c.args.limits.now c.args.row c.if-row-limits-2.true)

pub returns-clause-width : goal.returns-clause-width
returns-clause-width c = sym (page_is c.args.limits.now c.args.row c.if-row-limits-2.false c.if-row-limits.false)
