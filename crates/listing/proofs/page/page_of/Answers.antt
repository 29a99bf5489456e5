use Rattle.listing.proofs.Words.{◌≡◌, ◌<◌, Some, ap, arith, drop, get_or, length, subst, suc, sym, ◌∙◌, Makes}
use Rattle.std.proofs.Common.{◌-◌, ℕ, List}
use Rattle.deltas.specs.declared.record.Record.{Record}
use Rattle.traces.specs.chain.Fitted.{IsFitted}
use Rattle.traces.specs.chain.Chains.{chain_rows}
use Rattle.deltas.specs.declared.record.Record.TheVariants.{Base}
use Rattle.traces.proofs.FittedLaws.{ruled}
use Rattle.row_chain.proofs.Bases.{some}
use Rattle.row_chain.proofs.Making.{base_at, base_makes, fits_above}
use Rattle.listing.proofs.Chaining.{no_record, record_at, record_there, rows_long}
use Rattle.listing.proofs.Making.{next_makes}
use Rattle.listing.proofs.page.page_of.Goals as goal

-- A page's chain has some records, and as many rows.
long_of : (first : ℕ) (chain : List Record) {len : ℕ} {rows : List ℕ} → len ≡ length rows → rows ≡ chain_rows first chain → IsFitted chain
    → (len ≡ length chain) × (0 < length chain)
long_of first chain counted rows_are fitted = (counted ∙ ap length rows_are ∙ rows_long first chain, some chain fitted)

pub overflow_sub-base : goal.overflow_sub-base
overflow_sub-base g c =
    let (memory, chain, has, stands) = c.requires.stands in
    let (long, many) = long_of (memory.slots c.args.pid) chain c.len-base.ensures.value (c.rows_of-chain.ensures memory chain has stands) stands.fits.fitted in
    omega (arith, long, many)

pub bounds-deref-base : goal.bounds-deref-base
bounds-deref-base g c =
    let (memory, chain, has, stands) = c.requires.stands in
    let (long, many) = long_of (memory.slots c.args.pid) chain c.len-base.ensures.value (c.rows_of-chain.ensures memory chain has stands) stands.fits.fitted in
    let same = ap length c.deref.ensures.0 in
    omega (arith, c.len-base.ensures.value, long, many, same)

pub base_at-page-requires : goal.base_at-page-requires
base_at-page-requires g c =
    let (memory, chain, has, stands) = c.requires.stands in
    let rows = c.rows_of-chain.ensures memory chain has stands in
    let (long, many) = long_of (memory.slots c.args.pid) chain c.len-base.ensures.value rows stands.fits.fitted in
    let (page, is) = base_at chain (c.len-base.result - 1) no_record stands.fits.fitted (omega (arith, long, many)) in
    let there = record_there memory.rows (memory.slots c.args.pid) chain stands.records c.deref.result.now (c.deref.ensures.0 ∙ rows) (c.len-base.result - 1) (omega (arith, long, many)) 0 no_record in
    (memory, page, has, there ∙ ap Some is)

pub loop-place-init : goal.loop-place-init
loop-place-init g c = λ memory chain has stands.
    let rows = c.rows_of-chain.ensures memory chain has stands in
    let (long, many) = long_of (memory.slots c.args.pid) chain c.len-base.ensures.value rows stands.fits.fitted in
    let base = Base c.base_at-page.result in
    let at = record_at memory.rows (memory.slots c.args.pid) chain stands.records c.deref.result.now (c.deref.ensures.0 ∙ rows) (c.len-base.result - 1)
    (omega (arith, long, many)) 0 base base (c.base_at-page.ensures memory has) in
    base_makes chain (c.len-base.result - 1) c.base_at-page.result stands.fits.fitted (omega (arith, long, many)) (sym at)

pub record-requires : goal.record-requires
record-requires g c =
    let (memory, chain, has, stands) = c.requires.stands in
    let rows = c.rows_of-chain.ensures memory chain has stands in
    let (long, many) = long_of (memory.slots c.args.pid) chain c.len-base.ensures.value rows stands.fits.fitted in
    let within : c.loop-place.place - 1 < length chain = omega (arith, long, c.loop-place.auto.place, c.loop-place-test.true) in (
      memory,
      get_or chain (c.loop-place.place - 1) no_record,
      has,
      record_there memory.rows (memory.slots c.args.pid) chain stands.records
          c.deref-in-loop-place.result.now (c.deref-in-loop-place.ensures.0 ∙ rows) (c.loop-place.place - 1) within 0 no_record,
    )

pub apply-requires : goal.apply-requires
apply-requires g c =
    let (memory, chain, has, stands) = c.requires.stands in
    let rows = c.rows_of-chain.ensures memory chain has stands in
    let (long, many) = long_of (memory.slots c.args.pid) chain c.len-base.ensures.value rows stands.fits.fitted in
    let within : c.loop-place.place < length chain = omega (arith, long, c.loop-place.auto.place, c.loop-place-test.true) in
    let at = record_at memory.rows (memory.slots c.args.pid) chain stands.records c.deref-in-loop-place.result.now (c.deref-in-loop-place.ensures.0 ∙ rows)
    (c.loop-place.place - 1) (omega (arith, within)) 0 c.record.result c.record.result (c.record.ensures memory has) in
    fits_above chain c.loop-place.place c.loop-place.page c.record.result stands.fits.fitted c.loop-place-test.true within (c.loop-place.invariant memory chain has stands) at

pub loop-place-preserved : goal.loop-place-preserved
loop-place-preserved g c = λ memory chain has stands.
    let rows = c.rows_of-chain.ensures memory chain has stands in
    let (long, many) = long_of (memory.slots c.args.pid) chain c.len-base.ensures.value rows stands.fits.fitted in
    let within : c.loop-place.place - 1 < length chain = omega (arith, long, c.loop-place.auto.place, c.loop-place-test.true) in
    let at = record_at memory.rows (memory.slots c.args.pid) chain stands.records c.deref-in-loop-place.result.now (c.deref-in-loop-place.ensures.0 ∙ rows)
    (c.loop-place.place - 1) within 0 c.record.result c.record.result (c.record.ensures memory has) in
    let next : c.loop-place.place ≡ suc (c.loop-place.place - 1) = omega (arith, c.loop-place-test.true) in
    next_makes chain (c.loop-place.place - 1) within c.record.result at _ _
    (rw (← next) (c.loop-place.invariant memory chain has stands)) c.apply.ensures.applies

pub returns-clause-ruled : goal.returns-clause-ruled
returns-clause-ruled g c =
    let (memory, chain, has, stands) = c.requires.stands in
    let whole : c.loop-place.place ≡ 0 = omega (arith, c.loop-place-test.false) in
    ruled chain c.loop-place.page stands.fits.fitted (subst (λ n. Makes (drop n chain) c.loop-place.page) whole (c.loop-place.invariant memory chain has stands))
