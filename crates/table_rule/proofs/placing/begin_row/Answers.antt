use Rattle.table_rule.proofs.Words.{arith, row_few, row_within, sym, ◌∙◌}
use Rattle.table_rule.proofs.Begun.{begins_at}
use Rattle.table_rule.proofs.Measured.{measures_at}
use Rattle.table_rule.proofs.UsedWords.{begun_none, begun_two, stored_two}
use Rattle.table_rule.proofs.placing.begin_row.Goals as goal

pub load-requires : goal.load-requires
load-requires g c =
    let placed = c.args.placed.now in
    let wide = c.requires.table.wide in
    let base = c.row-base.ensures in
    let inside = row_within c.args.limits.now placed.row c.requires.range in (
      c.requires.table.same,
      omega (arith, c.requires.range, wide, base, inside),
      measures_at g.P.Law.law _ c.args.limits.now c.requires.table.own c.requires.law _ _ c.args.actor _ placed.row _
          c.requires.range c.requires.seat c.requires.owned base,
    )

pub returns-else-is_large-clause-seat : goal.returns-else-is_large-clause-seat
returns-else-is_large-clause-seat g c =
    rw (begun_none c.args.limits.now c.args.placed.now.spelt.now (sym c.is_large.ensures ∙ c.if-is_large.false))
    (c.load.ensures.2 c.args.limits.now c.args.actor c.args.placed.now.row c.requires.seat c.row-base.ensures).0

pub returns-else-is_large-clause-seen : goal.returns-else-is_large-clause-seen
returns-else-is_large-clause-seen g c = (c.load.ensures.2 c.args.limits.now c.args.actor c.args.placed.now.row c.requires.seat c.row-base.ensures).1

pub returns-else-is_large-clause-room : goal.returns-else-is_large-clause-room
returns-else-is_large-clause-room g c = (c.load.ensures.2 c.args.limits.now c.args.actor c.args.placed.now.row c.requires.seat c.row-base.ensures).2

pub overflow_add-base : goal.overflow_add-base
overflow_add-base g c =
    let few = row_few c.args.limits.now c.args.placed.now.row c.requires.range in
    let base = c.row-base.ensures in
    omega (arith, few, base)

pub bounds-placed-1 : goal.bounds-placed-1
bounds-placed-1 g c =
    let placed = c.args.placed.now in
    stored_two c.args.limits.now 0 placed.content.now placed.spelt.now c.requires.spelt (sym c.is_large.ensures ∙ c.if-is_large.true)

pub store-requires : goal.store-requires
store-requires g c =
    let placed = c.args.placed.now in
    let wide = c.requires.table.wide in
    let base = c.row-base.ensures in
    let inside = row_within c.args.limits.now placed.row c.requires.range in (
      c.requires.table.same,
      omega (arith, c.requires.range, wide, base, inside),
      begins_at g.P.Law.law _ c.args.limits.now c.requires.table.own c.requires.law (sym c.is_large.ensures ∙ c.if-is_large.true) _ _ c.args.actor _ placed.row _ _
          c.requires.range c.requires.seat c.requires.owned (omega (arith, base)),
    )

pub returns-then-is_large-clause-seat : goal.returns-then-is_large-clause-seat
returns-then-is_large-clause-seat g c =
    let placed = c.args.placed.now in
    let base = c.row-base.ensures in
    let two = stored_two c.args.limits.now 0 placed.content.now placed.spelt.now c.requires.spelt (sym c.is_large.ensures ∙ c.if-is_large.true) in
    rw (begun_two c.args.limits.now placed.spelt.now (sym c.is_large.ensures ∙ c.if-is_large.true) two)
    (c.store.ensures.2 c.args.limits.now c.args.actor placed.row (sym c.is_large.ensures ∙ c.if-is_large.true) c.requires.seat (omega (arith, base))).0

pub returns-then-is_large-clause-seen : goal.returns-then-is_large-clause-seen
returns-then-is_large-clause-seen g c =
    let base = c.row-base.ensures in
    (c.store.ensures.2 c.args.limits.now c.args.actor c.args.placed.now.row (sym c.is_large.ensures ∙ c.if-is_large.true) c.requires.seat (omega (arith, base))).1
