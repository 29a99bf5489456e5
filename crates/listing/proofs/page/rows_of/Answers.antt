use Rattle.listing.proofs.Words.{◌+◌, ap, arith, length, sym, ◌∙◌, length-append}
use Rattle.listing.proofs.Chaining.{all_read, is_left, is_there, none_read, one_read}
use Rattle.listing.proofs.page.rows_of.Goals as goal

pub slot-row-requires-clause-stands : goal.slot-row-requires-clause-stands
slot-row-requires-clause-stands g c =
    let (memory, chain, has, stands) = c.requires.stands in
    let (newest, there) = is_there memory.rows (memory.slots c.args.pid) chain stands.records in
    (memory, newest, has, there)

pub loop-init : goal.loop-init
loop-init g c = record {
  count = ap length c.new-chain.ensures;
  read = λ memory chain has stands. rw (c.new-chain.ensures, c.slot-row.ensures memory has) (none_read memory.rows (memory.slots c.args.pid) chain stands.records);
}

pub record-requires : goal.record-requires
record-requires g c =
    let (memory, chain, has, stands) = c.requires.stands in
    let read = c.loop.invariant.read memory chain has stands in
    let (newest, there) = is_there memory.rows c.loop.row read.rest read.stands in
    (memory, newest, has, there)

pub returns-in-None : goal.returns-in-None
returns-in-None g c = λ memory chain has stands.
    c.push.ensures.items ∙ all_read memory.rows _ chain _ c.loop.row (c.loop.invariant.read memory chain has stands) c.record.result (c.record.ensures memory has) (sym c.next.ensures ∙ c.in-None.is)

pub loop-preserved : goal.loop-preserved
loop-preserved g c = record {
  count = ap length c.push.ensures.items ∙ length-append c.loop.chain.items _ ∙ ap (λ n. n + 1) c.loop.invariant.count;
  read = λ memory chain has stands. rw c.push.ensures.items
      (one_read memory.rows _ chain _ c.loop.row (c.loop.invariant.read memory chain has stands) c.record.result (c.record.ensures memory has) c.in-Some.below (sym c.next.ensures ∙ c.in-Some.is));
}

pub unreachable-requires : goal.unreachable-requires
unreachable-requires g c =
    let (memory, chain, has, stands) = c.requires.stands in
    let left = is_left memory.rows _ chain _ c.loop.row (c.loop.invariant.read memory chain has stands) in
    omega (arith, left, stands.fits.short, c.loop.invariant.count, c.loop-test.false)
