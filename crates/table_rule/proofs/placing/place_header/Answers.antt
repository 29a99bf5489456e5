use Rattle.table_rule.proofs.Words.{arith, refl, row_within, seen_of, written_over}
use Rattle.table_rule.proofs.Filled.{places_at, enough_written}
use Rattle.table_rule.proofs.placing.place_header.Goals as goal

pub store-requires : goal.store-requires
store-requires g c =
    let placed = c.args.placed.now in
    let wide = c.requires.table.wide in
    let base = c.row.ensures in
    let inside = row_within c.args.limits.now placed.row c.requires.range in (
      c.requires.table.same,
      omega (arith, c.requires.range, wide, base, inside),
      places_at g.P.Law.law _ c.args.limits.now c.requires.table.own c.requires.law _ _ c.args.actor _ placed.row c.args.first
          (written_over c.args.limits.now c.args.first placed.spelt.now) _ (seen_of c.args.seat.now.me) refl c.requires.range c.requires.seat c.requires.owned
          _ placed.content.now g.C.Telling.step (omega (arith, base)) c.requires.told
          (enough_written c.args.limits.now c.args.first placed.row placed.content.now placed.spelt.now c.requires.fits c.requires.room c.requires.spelt)
          (rw c.requires.spelt.are c.requires.fits) c.requires.may,
    )

pub returns-clause-seat : goal.returns-clause-seat
returns-clause-seat g c =
    let placed = c.args.placed.now in
    (c.store.ensures.2 c.args.limits.now c.args.actor placed.row c.args.first (written_over c.args.limits.now c.args.first placed.spelt.now) c.requires.seat).0

pub returns-clause-took : goal.returns-clause-took
returns-clause-took g c =
    let placed = c.args.placed.now in
    rw c.requires.told
    (c.store.ensures.2 c.args.limits.now c.args.actor placed.row c.args.first (written_over c.args.limits.now c.args.first placed.spelt.now) c.requires.seat).1
