use Rattle.std.proofs.Common.{◌≡◌, ◌+◌, ◌*◌, ◌-◌, take, drop, ap, subst, sym, arith}
use Rattle.deltas.specs.declared.record.Record.{Record}
use Rattle.record_slots.specs.Layout.{item_size, items_at}
use Rattle.record_slots.specs.Spells.{IsSpelling}
use Rattle.record_slots.specs.Parts.{IsRecordOf}
use Rattle.record_slots.proofs.Refusals.{refused, found_as}
use Rattle.record_slots.proofs.SpellingLaws.{row_spelled, spelled_by, record_spelled}
use Rattle.record_slots.proofs.read.read_words.Goals as goal

pub returns-in_err-row : goal.returns-in_err-row
returns-in_err-row c =
    let words = c.args.words.now in
    refused (λ (content : Record). IsSpelling content words) c.from_residual.result c.from_residual.ensures.0 (λ content h. c.in_err-row.ensures _ (row_spelled words content h))

pub returns : goal.returns
returns c =
    let words = c.args.words.now in
    let row = c.in_ok-row.row in
    let is = c.in_ok-row.ensures in
    let span : items_at + item_size * row.count - items_at ≡ item_size * row.count = omega arith in
    let items = ap (λ n. take n (drop items_at words)) span in
    found_as (IsRecordOf row (take (items_at + item_size * row.count - items_at) (drop items_at words))) (λ (content : Record). IsSpelling content words) c.record_in.result
    (λ content h. spelled_by words row content c.told-words is (subst (λ ws. IsRecordOf row ws content) items h))
    (λ content h. subst (λ ws. IsRecordOf row ws content) (sym items) (record_spelled words row content is h)) c.record_in.ensures
