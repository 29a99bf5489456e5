use Rattle.row_chain.proofs.Words.{arith, is_left}
use Rattle.std.specs.Prelude.{false}
use Rattle.row_chain.proofs.Inside.{child_if_some, ends_above}
use Rattle.row_chain.proofs.chain.walk.inside_base.Goals as goal

pub returns-then-count-item_count-clause-child : goal.returns-then-count-item_count-clause-child
returns-then-count-item_count-clause-child g c =
    let some = c.if-count-eq0.false in
    let passing = c.passing-count in
    child_if_some c.args.base.now.content c.requires.alone.fitted c.keeps_spelling.ensures.spellable (is_left false c.args.key.now) passing.ensures.items
    passing.result.0 passing.ensures.passed (omega (arith, some)) c.child_at.result c.child_at.ensures.child

pub returns-then-count-item_count-clause-ends : goal.returns-then-count-item_count-clause-ends
returns-then-count-item_count-clause-ends g c = λ some.
    let within = c.if-count-item_count.true in
    let passing = c.passing-count in
    ends_above c.args.base.now.content c.requires.alone.fitted c.keeps_spelling.ensures.spellable c.args.key.now passing.result.0 passing.ensures.passed
    (omega (arith, within))

pub returns-then-ends_after-clause-child : goal.returns-then-ends_after-clause-child
returns-then-ends_after-clause-child g c =
    let some = c.if-count-eq0.false in
    let passing = c.passing-count in
    let child = c.child_at-then-ends_after in
    child_if_some c.args.base.now.content c.requires.alone.fitted c.keeps_spelling.ensures.spellable (is_left false c.args.key.now) passing.ensures.items
    passing.result.0 passing.ensures.passed (omega (arith, some)) child.result child.ensures.child
