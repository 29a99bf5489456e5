use Rattle.row_chain.proofs.Words.{◌<◌, ◌≤◌, length, ap, ◌∙◌, arith, contents}
use Rattle.row_chain.proofs.Passing.{lone}
use Rattle.row_chain.proofs.Standing.{some_read}
use Rattle.row_chain.proofs.chain.Chain.child_inside.Goals as goal

pub returns-clause-child : goal.returns-clause-child
returns-clause-child g c =
    let rows = c.as_read-records.result.now in
    let read = some_read (g.R.Rows.has c.args.rows.now c.args.pass.now) c.args.self.now c.requires.read in
    let some : 0 < length (contents rows) = (let e = ap length c.as_read-records.ensures.records in omega (arith, e, read)) in
    let few : length rows ≤ 1 = (let one = c.if-records-gt1.false in omega (arith, one)) in
    let alone = lone rows c.index-records-0.result few some c.index-records-0.is ∙ c.as_read-records.ensures.records in
    rw (← alone) c.inside_base.ensures.child

pub returns-clause-ends : goal.returns-clause-ends
returns-clause-ends g c =
    let rows = c.as_read-records.result.now in
    let read = some_read (g.R.Rows.has c.args.rows.now c.args.pass.now) c.args.self.now c.requires.read in
    let some : 0 < length (contents rows) = (let e = ap length c.as_read-records.ensures.records in omega (arith, e, read)) in
    let few : length rows ≤ 1 = (let one = c.if-records-gt1.false in omega (arith, one)) in
    let alone = lone rows c.index-records-0.result few some c.index-records-0.is ∙ c.as_read-records.ensures.records in
    rw (← alone) c.inside_base.ensures.ends
