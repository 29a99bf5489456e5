use Rattle.table_rule.proofs.Words.{Idle, SitsAt, ap, arith, row_within, subst, sym, ◌∙◌}
use Rattle.table_rule.proofs.RowReads.{reads_at}
use Rattle.table_rule.proofs.reading.read_first.Goals as goal

pub load-requires : goal.load-requires
load-requires g c =
    let wide = c.requires.table.wide in
    let base = c.row-place.ensures in
    let inside = row_within c.args.limits.now c.args.row c.requires.range in
    let back = sym c.look_ahead.ensures.same in
    let me = ap (λ s. s.me) back in (
      ap (λ s. s.table_id) c.look_ahead.ensures.same ∙ c.requires.table.same,
      omega (arith, c.requires.range, wide, base, inside),
      reads_at g.P.Law.law _ c.args.limits.now c.requires.table.own c.requires.law _ _ c.args.actor _ c.args.row _ c.requires.range
          (subst (SitsAt c.args.limits.now c.args.actor Idle) me c.requires.seat)
          (rw (← me) c.requires.known)
          base
          (rw (← me) c.requires.may),
    )

pub returns-clause-seat : goal.returns-clause-seat
returns-clause-seat g c =
    let me = ap (λ s. s.me) (sym c.look_ahead.ensures.same) in
    (c.load.ensures.2 c.args.limits.now c.args.actor c.args.row (subst (SitsAt c.args.limits.now c.args.actor Idle) me c.requires.seat) c.row-place.ensures).0

pub returns-clause-took : goal.returns-clause-took
returns-clause-took g c =
    let back = ap (λ s. s.me) c.look_ahead.ensures.same in
    let sits = subst (SitsAt c.args.limits.now c.args.actor Idle) (sym back) c.requires.seat in
    rw (← back)
    (c.load.ensures.2 c.args.limits.now c.args.actor c.args.row sits c.row-place.ensures).1
