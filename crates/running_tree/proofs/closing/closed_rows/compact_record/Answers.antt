use Rattle.std.proofs.Common.{arith}
use Rattle.running_tree.proofs.Kept.{large_row_is, row_there, spread_spells}
use Rattle.running_tree.proofs.closing.closed_rows.compact_record.Goals as goal

pub row_of-requires-clause-range : goal.row_of-requires-clause-range
row_of-requires-clause-range g c = let (memory, content, has, at) = c.requires.stands in (has.1.kept c.args.row content at).there

pub row_of-requires-clause-there : goal.row_of-requires-clause-there
row_of-requires-clause-there g c =
    let (memory, content, has, at) = c.requires.stands in
    let there = row_there c.args.rows.now.limits.now c.args.rows.now.closed.now.words.items memory c.args.row content has.1 at in
    omega (arith, there, c.args.rows.now.closed.now.words.ok.0)

pub unreachable-requires : goal.unreachable-requires
unreachable-requires g c =
    let (memory, content, has, at) = c.requires.stands in
    c.in-Err.ensures content (spread_spells c.args.rows.now.limits.now c.requires.large c.args.rows.now.closed.now.words.items memory c.args.row content has.1 at c.row_of.result c.spread.result
    c.row_of.ensures.words c.spread.ensures.long c.spread.ensures.words)

pub returns : goal.returns
returns g c = λ memory keep.
    let (first, content, has, at) = c.requires.stands in
    large_row_is c.args.rows.now.limits.now c.requires.large c.args.rows.now.closed.now.words.items memory first c.args.row c.in-Ok.record content c.row_of.result c.spread.result
    c.spelling_is_one.ensures has.1 at keep.1 c.row_of.ensures.words c.spread.ensures.long c.spread.ensures.words c.in-Ok.ensures
