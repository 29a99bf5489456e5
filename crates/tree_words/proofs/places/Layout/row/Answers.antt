use Rattle.std.proofs.Common.{◌<◌, ◌≤◌, arith}
use Rattle.tree_words.proofs.RowWidths.{narrow_is, pages_on, row_few, wide_on}
use Rattle.tree_words.proofs.places.Layout.row.Goals as goal

pub returns-then-row-self : goal.returns-then-row-self
returns-then-row-self c =
    let is = narrow_is c.self.inside.limits c.from-row.result c.if-row-self.true in
    rw (← c.self.view_is, ← c.from-row.ensures) (omega (arith, is))

pub overflow_add-result-then-row-self-2 : goal.overflow_add-result-then-row-self-2
overflow_add-result-then-row-self-2 c =
    let limits = c.self.inside.limits in
    let row = c.from-row.result in
    let within : row < limits.rows = rw (c.self.view_is, c.from-row.ensures) c.requires in
    let few = row_few limits row within in
    let is = pages_on limits row c.if-row-self.false c.if-row-self-2.true in
    let at = c.self.invariant.pages in
    omega (arith, few, is, at)

pub returns-then-row-self-2 : goal.returns-then-row-self-2
returns-then-row-self-2 c =
    let is = pages_on c.self.inside.limits c.from-row.result c.if-row-self.false c.if-row-self-2.true in
    let at = c.self.invariant.pages in
    rw (← c.self.view_is, ← c.from-row.ensures) (omega (arith, is, at))

pub overflow_add-result-2 : goal.overflow_add-result-2
overflow_add-result-2 c =
    let limits = c.self.inside.limits in
    let row = c.from-row.result in
    let within : row < limits.rows = rw (c.self.view_is, c.from-row.ensures) c.requires in
    let few = row_few limits row within in
    let is = wide_on limits row c.if-row-self-2.false in
    let at = c.self.invariant.wide in
    omega (arith, few, is, at)

pub returns : goal.returns
returns c =
    let is = wide_on c.self.inside.limits c.from-row.result c.if-row-self-2.false in
    let at = c.self.invariant.wide in
    rw (← c.self.view_is, ← c.from-row.ensures) (omega (arith, is, at))
