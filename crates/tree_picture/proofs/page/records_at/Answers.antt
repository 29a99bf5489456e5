use Rattle.std.proofs.Common.{◌≡◌, ◌<◌, [], ◌∷◌, ◌++◌, add-one, ap, arith, length, refl, sym, take, ◌∙◌}
use Rattle.std.proofs.Math.Seq.{take-length, take-suc}
use Rattle.core_memory.specs.Tables.{memory_in}
use Rattle.listing.proofs.Chaining.{no_record, record_at, record_there, rows_long}
use Rattle.tree_picture.proofs.page.records_at.Goals as goal

pub unreachable-requires : goal.unreachable-requires
unreachable-requires g c =
    let (chain, stands) = c.requires.stands in
    let memory = memory_in c.args.table.now in
    let whole = c.rows_of-rows.ensures memory chain refl stands in
    let within : c.loop-place.place < length chain = omega (arith, c.loop-place-test.true, c.len-place-end.ensures.value, ap length whole ∙ rows_long (memory.slots c.args.pid) chain) in
    c.in_default.not-Some _
    (c.record.ensures ∙ record_there memory.rows (memory.slots c.args.pid) chain stands.records c.deref.result.now (c.deref.ensures.0 ∙ whole) c.loop-place.place within 0 no_record)

pub loop-place-preserved : goal.loop-place-preserved
loop-place-preserved g c = λ chain stands.
    let memory = memory_in c.args.table.now in
    let whole = c.rows_of-rows.ensures memory chain refl stands in
    let within : c.loop-place.place < length chain = omega (arith, c.loop-place-test.true, c.len-place-end.ensures.value, ap length whole ∙ rows_long (memory.slots c.args.pid) chain) in
    let at = record_at memory.rows (memory.slots c.args.pid) chain stands.records c.deref.result.now (c.deref.ensures.0 ∙ whole) c.loop-place.place within 0
    c.in-Some.record c.in-Some.record (sym c.record.ensures ∙ c.in-Some.is) in
    let longer = take-suc chain c.loop-place.place c.in-Some.record within ∙ ap (λ r. take c.loop-place.place chain ++ r ∷ []) (sym at) in
    c.in_ok-push.ensures.items ∙ ap (λ r. r ++ c.in-Some.record ∷ []) (c.loop-place.invariant chain stands) ∙ sym longer ∙ ap (λ n. take n chain) (sym (add-one c.loop-place.place))

pub returns : goal.returns
returns g c = λ chain stands.
    let long = c.len-place-end.ensures.value ∙ ap length (c.rows_of-rows.ensures (memory_in c.args.table.now) chain refl stands) ∙ rows_long ((memory_in c.args.table.now).slots c.args.pid) chain in
    let whole : c.loop-place.place ≡ length chain = omega (arith, long, c.loop-place-test.false, c.loop-place.auto.place-end) in
    c.loop-place.invariant chain stands ∙ ap (λ n. take n chain) whole ∙ take-length chain
