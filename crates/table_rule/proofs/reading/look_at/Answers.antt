use Rattle.table_rule.proofs.Words.{arith, row_few, row_within}
use Rattle.table_rule.proofs.RowReads.{looks_at}
use Rattle.table_rule.proofs.reading.look_at.Goals as goal

pub load-requires : goal.load-requires
load-requires g c =
    let wide = c.requires.table.wide in
    let base = c.requires.place in
    let inside = row_within c.args.limits.now c.args.row c.requires.range in (
      c.requires.table.same,
      omega (arith, c.requires.range, c.requires.word, wide, base, inside),
      looks_at g.P.Law.law _ c.args.limits.now c.requires.table.own c.requires.law _ _ c.args.actor _ c.args.row _ c.requires.range c.requires.seat
          c.requires.known c.args.at c.requires.word (omega (arith, base)),
    )

pub returns-clause-found : goal.returns-clause-found
returns-clause-found g c content has used =
    let base = c.requires.place in
    c.load.ensures.2.1 c.args.limits.now c.args.actor c.args.row c.args.at content c.requires.seat c.requires.word used has (omega (arith, base))

pub returns-clause-spelt : goal.returns-clause-spelt
returns-clause-spelt g c content has =
    let base = c.requires.place in
    c.load.ensures.2.2 c.args.limits.now c.args.actor c.args.row c.args.at content c.requires.seat c.requires.word has (omega (arith, base))

-- A seat is its table, its number, and what it knows.
pub returns-clause-same : goal.returns-clause-same
returns-clause-same g c =
    let told = c.load.ensures in
    λ i. record { marker = record {}; table_id = told.0 i; id = told.1 i; me = told.2.0 i }

pub overflow_add-place : goal.overflow_add-place
overflow_add-place g c = let few = row_few c.args.limits.now c.args.row c.requires.range in omega (arith, few, c.requires.place, c.requires.word)
