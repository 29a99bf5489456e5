use Rattle.compact_rows.proofs.Within.{code_room, text_room}
use Rattle.compact_rows.proofs.spread.item_look.Goals as goal

pub look-code-requires : goal.look-code-requires
look-code-requires g c =
    let a = c.requires.has.0 in
    let h = c.requires.has.1 in
    record { has = (a, h, code_room a (c.requires.spelt a h) c.args.count c.args.item (c.requires.counts a h) c.requires.there) }

pub rest_look-requires-clause-has : goal.rest_look-requires-clause-has
rest_look-requires-clause-has g c =
    let a = c.requires.has.0 in
    let h = c.requires.has.1 in (
      a,
      rw c.look-code.ensures.same h,
      text_room a (c.requires.spelt a h) c.args.count c.args.item (c.requires.counts a h) c.requires.there c.args.first c.look-code.result (c.requires.first a h) (c.look-code.ensures.word a h),
    )
