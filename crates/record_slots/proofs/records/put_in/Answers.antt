use Rattle.std.proofs.Common.{suc, ◌≡◌, [], Some, take, drop, get_or, sym, arith}
use Rattle.record_slots.specs.Layout.{field_size, text_size}
use Rattle.record_slots.specs.Texts.{IsField, IsText}
use Rattle.record_slots.proofs.ItemLaws.{pair_spelled}
use Rattle.record_slots.proofs.records.put_in.Goals as goal

pub returns : goal.returns
returns c =
    let words = c.args.words.now in
    let key = c.in_ok-key.key in
    let value = c.in_ok-value.value in
    let first : IsField (take field_size words) key = c.in_ok-key.ensures in
    let second : IsText (get_or words field_size 0) (take text_size (drop (suc field_size) words)) value = c.in_ok-value.ensures in
    let row = c.args.row in
    let kind : 2 ≡ row.kind = sym c.requires.kind in
    let level : 0 ≡ row.level = omega (arith, c.if-row-gt0.false) in
    let page : 0 ≡ row.page = omega (arith, c.if-row-gt0-2.false) in
    let count : 1 ≡ row.count = omega (arith, c.if-row-ne1.false) in
    let low : [] ≡ row.first = sym (c.is_empty.ensures.0 c.if-not-is_empty.false) in
    let high : Some [] ≡ row.second = sym (c.is_empty_bound.ensures.0 c.if-not-is_empty_bound.false) in
    record {
      spellable = (omega (arith, c.if-row-eq0.false), c.requires.parts.next);
      short = (first.short, second.short);
      are = λ i. record { kind = kind i; level = level i; count = count i; next = row.next; page = page i; first = low i; second = high i };
      items = pair_spelled words key value (omega (arith, c.requires.words, c.if-row-ne1.false)) first.are second.counts second.are;
    }
